-- The limits of a call: a field has at most 32 bits, and a call takes at most 64 fields.
use Rattle.std.specs.Prelude.{List, map, ◌++◌, ℕ, min, ℤ, length, take, drop, if◌then◌else◌}
use Rattle.words.specs.Fields.{read_all, write_all, fits_signed, bits_of}

abbrev pub narrow : ℕ → ℕ
narrow width = min width 32

-- as many as both lists have
abbrev pub fewest : ℕ → ℕ → ℕ
fewest a b = min (min 64 a) b

-- the fields of these widths read into the front of a list; and the front of a list written to them
unfoldable pub read_into : List ℕ → ℕ → List ℕ → List ℕ → List ℕ
read_into s p ws out =
    let n = fewest (length ws) (length out) in
    read_all s p (take n (map narrow ws)) ++ drop n out

unfoldable pub write_from : List ℕ → ℕ → List ℕ → List ℕ → List ℕ
write_from s p ws vs =
    let n = fewest (length ws) (length vs) in
    write_all s p (take n (map narrow ws)) (take n vs)

-- the bits that say a volume; 0 where it has no room in 28 bits
unfoldable pub volume_bits : ℤ → ℕ
volume_bits z = if fits_signed 27 z then bits_of 27 z else 0
