-- The appends that follow any path that the engine left. Such a path has an entry and is backed by a few of all models, accepted appends
-- keep that, and it gives what the claims say of the paths that histories leave.
use mathlib.Core.Bool.{Bool, true, false, cond}
use mathlib.Core.List.{List, ◌∷◌}
use Prim.Native.Nat.{◌≤◌}
use native.Mathlib.Omega.{arith}
use lib.ListN.{length}
use Rattle.path.specs.Model.{Model}
use Rattle.path.specs.Update.{extended, passed_over, joined}
use Rattle.path.proofs.Paths.{length-path}
use Rattle.path.proofs.Order.{Passes}
use Rattle.hull.specs.History.{State, appends, path_at}
use Rattle.hull.specs.Claims.{EnginePath}
use Rattle.hull.proofs.Winners.{winners-with-skipped}
use Rattle.hull.proofs.Selections.{always-selects-smallest, always-between}
use Rattle.hull.proofs.Orders.{never_eight}
use Rattle.hull.proofs.Appends.{Backed, backed-joined, Lasts, lasts-appends}

-- A path of all models has an entry and is backed by a few of them.
pub record Grounded (path all : List Model) : Type 0 where
  pub few : List Model
  pub backed : Backed path few all
  pub some : 1 ≤ length path

-- One more model is accepted.
grounded-joined : (path all : List Model) (m : Model) → Grounded path all → Passes path m → Grounded (joined path m) (m ∷ all)
grounded-joined path all m h p =
    record {
      few = cond (passed_over path m) h.few (m ∷ h.few);
      backed = backed-joined path h.few all m h.backed p;
      some = by-test (passed_over path m) h.some;
    }
  where
    by-test : (b : Bool) → 1 ≤ length path → 1 ≤ length (cond b path (extended path m))
    by-test true q = q
    by-test false q = omega arith

-- A state holds such a path, whatever the tests.
abbrev pub Engine : State → Type 0
Engine = Lasts (λ path all tests. Grounded path all)

-- It has what the claims say.
pub engine-path : (x : State) → Engine x → EnginePath x
engine-path x h =
    let g = h.has in
    let sound = g.backed.sound in
    let some : 1 ≤ x.entries = omega (arith, g.some, length-path x.buffers x.entries) in
    record {
      winners = winners-with-skipped (path_at x) g.few x.models sound g.backed.listed;
      falling = sound.falling;
      never_eight = never_eight x.buffers x.entries h.valid;
      selections = always-selects-smallest x.buffers x.entries g.few x.models h.valid sound g.backed.listed some;
      between = always-between x.buffers x.entries g.few h.valid sound;
    }

-- So has every state that appends leave after it.
pub engine-appends : (x : State) → Engine x → (ms : List Model) → EnginePath (appends x ms)
engine-appends x h ms = engine-path (appends x ms) (lasts-appends _ (λ path all tests m. grounded-joined path all m) ms x h)
