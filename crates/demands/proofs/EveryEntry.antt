-- What holds of every entry of a path and of a new model holds of every entry of the paths that calls make of them.
use mathlib.Core.Bool.{Bool, true, false, cond}
use mathlib.Core.List.{List, [], ◌∷◌}
use Prim.Native.Nat.{ℕ, zero, suc}
use Rattle.coding.proofs.Small.{Every}
use Rattle.path.specs.Model.{Model, Lists, model_at, path_of}
use Rattle.path.specs.Update.{kept, extended, passed_over, joined}
use Rattle.path.proofs.Updates.{Keeps, stays, drops, keeps}
use Rattle.build.specs.Build.{built}

module _ (P : Model → Type 0) where
  every-keeps : {m : Model} {path rest : List Model} {t : ℕ} → Keeps m path rest t → Every P path → Every P rest
  every-keeps (stays h) f = f
  every-keeps (drops h k) f = every-keeps k f.1

  every-kept : (path : List Model) (m : Model) → Every P path → Every P (kept path m)
  unfolding kept
  every-kept [] m f = tt
  every-kept (e ∷ r) m f = every-keeps (keeps e r m) f

  pub every-joined : (path : List Model) (m : Model) → P m → Every P path → Every P (joined path m)
  every-joined path m h f = by-test (passed_over path m)
    where
      by-test : (o : Bool) → Every P (cond o path (extended path m))
      by-test true = f
      by-test false = (h, every-kept path m f)

  -- Where it holds at every place of three lists, it holds of every path from these places.
  module _ (t : Lists) (at : (i : ℕ) → P (model_at t i)) where
    pub every-path : (n : ℕ) → Every P (path_of t n)
    unfolding path_of
    every-path zero = tt
    every-path (suc n) = (at n, every-path n)

    pub every-built : (n : ℕ) → Every P (built t n)
    unfolding built
    every-built zero = tt
    every-built (suc n) = every-joined (built t n) (model_at t n) (at n) (every-built n)
