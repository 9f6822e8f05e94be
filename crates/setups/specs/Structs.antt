-- The structs of `setups` and what they hold: each struct as meaning has it, and each thing of meaning as a struct, with zero in what it lacks.
use Rattle.std.specs.Prelude.{List, ℕ, length, get_or, replicate}
use Rattle.words.specs.Lists.{build}
use Rattle.meaning.specs.Authorisations as Meaning
use Rattle.meaning.specs.Books as Books
use Rattle.setups.specs.declared.Authorisation.{Authorisation}
use Rattle.setups.specs.declared.Setup.{Setup}

-- ---- what a struct holds

abbrev pub no_authorisation : Authorisation
no_authorisation = record { agent1 = 0; agent2 = 0; account1 = 0; account2 = 0; key = 0; first = 0; last = 0; amendment = 0 }

abbrev pub row_of : Authorisation → Meaning.Authorisation
row_of a =
    record { agent1 = a.agent1; agent2 = a.agent2; account1 = a.account1; account2 = a.account2; key = a.key; first = a.first; last = a.last; type = a.amendment }

unfoldable pub rows_of : ℕ → List Authorisation → List Meaning.Authorisation
rows_of n rows = build n (λ (k : ℕ). row_of (get_or rows k no_authorisation))

unfoldable pub codes_of : ℕ → List ℕ → List ℕ
codes_of n codes = build n (λ (k : ℕ). get_or codes k 0)

unfoldable pub setup_of : Setup → Books.Setup
setup_of s = record { first = s.first; codes = codes_of s.days s.codes; accounts = s.accounts; rows = rows_of s.authorisations s.rows }

-- ---- the struct for what meaning has

abbrev pub row_for : Meaning.Authorisation → Authorisation
row_for a =
    record { agent1 = a.agent1; agent2 = a.agent2; account1 = a.account1; account2 = a.account2; key = a.key; first = a.first; last = a.last; amendment = a.type }

unfoldable pub setup_for : Books.Setup → Setup
setup_for s =
    let codes = build 8 (λ (k : ℕ). get_or s.codes k 0) in
    let rows = build 64 (λ (k : ℕ). row_for (get_or s.rows k Meaning.no_row)) in
    record { first = s.first; days = length s.codes; accounts = s.accounts; authorisations = length s.rows; codes = codes; rows = rows }

abbrev pub no_setup_struct : Setup
no_setup_struct = record { first = 0; days = 0; accounts = 0; authorisations = 0; codes = replicate 8 0; rows = replicate 64 no_authorisation }
