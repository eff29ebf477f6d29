-- `path::has_room` meets its contract: each of the lengths has room, or one has none.
use mathlib.Core.Path.{◌≡◌, refl, ap, ◌∙◌}
use mathlib.Core.Bool.{Bool, ◌&&◌}
use mathlib.Core.List.{List, [], ◌∷◌}
use Prim.Native.Nat.{ℕ}
use lib.Dec.{leb}
use Rattle.std.proofs.Common.{rules, tests}
use Rattle.std.proofs.lemmas.Iterator.{YieldsList-from_slice}
use Rattle.std.proofs.lemmas.Iterator.Search.{all_from_yields_List}
use Rattle.std.specs.List.{list_all}
use Rattle.path.specs.Refusal.{room_for}
use Rattle.path.proofs.has_room.Goals as goal

room_all : (n : ℕ) (rooms : List ℕ) → list_all (λ (room : ℕ). leb n room) rooms ≡ room_for n rooms
room_all n [] = refl
room_all n (room ∷ rooms) = ap (λ (b : Bool). leb n room && b) (room_all n rooms)

pub returns : goal.returns
returns c =
    let a = c.args in
    all_from_yields_List (λ room. leb a.n room) _ _ c.all.result c.all.ensures.ran (YieldsList-from_slice a.rooms.now cc) (λ x b q k. search (rules, tests))
    ∙ room_all a.n a.rooms.now
