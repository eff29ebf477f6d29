-- `select::check_listing` meets its contract: the number is that of the first check that fails.
use mathlib.Core.Path.{ap, sym, ◌∙◌}
use mathlib.Core.List.{◌∷◌, []}
use Prim.Native.Nat.{ℕ}
use Rattle.path.specs.Refusal.{refusal_of, room_for}
use Rattle.select.proofs.check_listing.Goals as goal

pub returns-then-not-valid-clause-refusal : goal.returns-then-not-valid-clause-refusal
unfolding refusal_of
returns-then-not-valid-clause-refusal c = rw c.if-not-valid.true

pub returns-then-not-has_room-clause-refusal : goal.returns-then-not-has_room-clause-refusal
unfolding refusal_of
returns-then-not-has_room-clause-refusal c =
    let a = c.args in
    let room = ap (λ (n : ℕ). room_for n (a.numerators_room ∷ a.denominators_room ∷ [])) (sym c.saturating_sub-count.ensures) in
    rw (c.if-not-valid.false, room ∙ sym c.has_room.ensures ∙ c.if-not-has_room.true)

pub returns-clause-refusal : goal.returns-clause-refusal
unfolding refusal_of
returns-clause-refusal c =
    let a = c.args in
    let room = ap (λ (n : ℕ). room_for n (a.numerators_room ∷ a.denominators_room ∷ [])) (sym c.saturating_sub-count.ensures) in
    rw (c.if-not-valid.false, room ∙ sym c.has_room.ensures ∙ c.if-not-has_room.false)
