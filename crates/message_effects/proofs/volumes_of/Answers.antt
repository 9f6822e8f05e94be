-- With so many entries passed, from the last down, the array holds what those give.
use mathlib.Core.List.{List, []}
use mathlib.Core.Path.{◌≡◌, sym, ap, ◌∙◌}
use Prim.Native.Nat.{suc, ◌-◌, ◌<◌, min}
use native.Mathlib.Omega.{arith}
use lib.IntN.{ℤ}
use lib.ListN.{length, get_or, set, take}
use mir.Facts.{to_z-of_z}
use mir.Syntax.{w32}
use Rattle.std.proofs.Common.{rules, ◌∷◌, ◌++◌}
use Rattle.std.proofs.lemmas.List.{length_push}
use Rattle.std.proofs.lemmas.Iterator.Adapters.{YieldsList-from_rev_slice}
use Rattle.std.proofs.lemmas.Iterator.Consumers.{YieldsList-turn, YieldsList-end}
use Rattle.words.specs.Tests.{between}
use Rattle.messages.specs.declared.Entry.{Entry}
use Rattle.messages.specs.Structs.{no_entry, entries_of, notification_of}
use Rattle.message_effects.proofs.Volumes.{given_from, entries-length, length-back, entry-back, given-stored, given-passed, given-none, given-all}
use Rattle.message_effects.proofs.volumes_of.Goals as goal
use Rattle.message_effects.proofs.volumes_of.Goals.{After-contains}

pub loop-e-init : goal.loop-e-init
loop-e-init c =
    let a = c.args.n in
    let all : min a.count 50 ≡ c.entries_inside-count.result - 0 = omega (arith, c.entries_inside-count.ensures) in
    given-none a.count a.entries (entries-length a c.well_formed.0) ∙ ap (given_from (entries_of a.count a.entries)) all

-- the turn's entry is the one before those that were passed
turn : (c : After-contains) → let k = length c.loop-e.yielded in let count = c.entries_inside-count.result in
    (k < count) × (c.in-Some.e.now ≡ get_or c.args.n.entries (count - suc k) no_entry)
turn c =
    let a = c.args.n in
    entry-back a.entries c.entries_inside-count.result (omega (arith, c.entries_inside-count.ensures, entries-length a c.well_formed.0)) (length c.loop-e.yielded) c.in-Some.e.now
    (YieldsList-turn (YieldsList-from_rev_slice (take c.entries_inside-count.result a.entries) (cc)) c.loop-e.yielded _ c.loop-e.yielded_by _ _ c.in-Some.e c.in-Some.is c.next.ensures.steps)

pub loop-e-preserved-then-contains : goal.loop-e-preserved-then-contains
loop-e-preserved-then-contains c =
    let a = c.args.n in
    let l = c.loop-e in
    let e = c.in-Some.e.now in
    let count = c.entries_inside-count.result in
    let k = length l.yielded in
    let given = given_from (entries_of a.count a.entries) in
    let t = turn (goal.at.loop-e-preserved-then-contains c).After-contains in
    let within : c.contains.result ≡ between 1 50 e.period = search rules in
    let next : count - suc k ≡ count - length (l.yielded ++ (c.in-Some.e ∷ [])) = omega (arith, length_push l.yielded c.in-Some.e) in
    let stored : set l.volumes (e.period - 1) e.volume ≡ given (count - length (l.yielded ++ (c.in-Some.e ∷ []))) =
    ap (λ (v : List ℤ). set v (e.period - 1) e.volume) l.invariant
    ∙ ap (λ (x : Entry). set (given (count - k)) (x.period - 1) x.volume) t.1
    ∙ given-stored a.count a.entries (count - suc k) (count - k) (omega (arith, t.0)) (omega (arith, t.0, c.entries_inside-count.ensures)) (ap (λ (x : Entry). between 1 50 x.period) (sym t.1) ∙ sym within ∙ c.if-contains.true)
    ∙ ap given next in
    rw (to_z-of_z {w = w32} {z = e.volume} (record { sfits = omega arith })) stored

pub loop-e-preserved : goal.loop-e-preserved
loop-e-preserved c =
    let a = c.args.n in
    let l = c.loop-e in
    let e = c.in-Some.e.now in
    let count = c.entries_inside-count.result in
    let k = length l.yielded in
    let given = given_from (entries_of a.count a.entries) in
    let t = turn (goal.at.loop-e-preserved c).After-contains in
    let within : c.contains.result ≡ between 1 50 e.period = search rules in
    let next : count - suc k ≡ count - length (l.yielded ++ (c.in-Some.e ∷ [])) = omega (arith, length_push l.yielded c.in-Some.e) in
    l.invariant
    ∙ given-passed a.count a.entries (count - suc k) (count - k) (omega (arith, t.0)) (omega (arith, t.0, c.entries_inside-count.ensures)) (ap (λ (x : Entry). between 1 50 x.period) (sym t.1) ∙ sym within ∙ c.if-contains.false)
    ∙ ap given next

pub returns : goal.returns
unfolding notification_of
returns c =
    let a = c.args.n in
    let l = c.loop-e in
    let count = c.entries_inside-count.result in
    let ended = YieldsList-end (YieldsList-from_rev_slice (take count a.entries) (cc)) l.yielded _ l.yielded_by _ _ c.in-None.is c.next.ensures.steps in
    let none : count - length l.yielded ≡ 0 = omega (arith, ended.1, length-back a.entries count (omega (arith, c.entries_inside-count.ensures, entries-length a c.well_formed.0))) in
    l.invariant ∙ ap (given_from (entries_of a.count a.entries)) none ∙ given-all a.count a.entries
