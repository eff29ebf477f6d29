-- However a history begins, its first path is one of the engine's, and appends keep it so.
use mathlib.Core.Path.{◌≡◌, sym, ◌∙◌}
use mathlib.Core.List.{List, [], ◌∷◌, ◌++◌}
use Prim.Native.Nat.{ℕ}
use lib.IntN.{ℤ}
use Rattle.segment.specs.Segment.{Samples16}
use Rattle.signal.specs.SignalPath.{PathBuffers, signal_path_of}
use Rattle.signal.proofs.Inputs.{path-solvable}
use Rattle.signal.proofs.Cases.{path-refusal, path-accepted}
use Rattle.hull.proofs.Engines.{Engine, engine-appends}
use Rattle.hull.proofs.Quadratics.{older-engine}
use Rattle.demands.specs.Origins.{Origin, Accepted, state_of, OriginClaim}
use Rattle.demands.proofs.Signals.{engine, split-is, asked}
use Rattle.demands.proofs.Streams.{path-lent, path-same, path-agreed}

-- The state after an accepted call for a signal's path.
signal-engine : (xs : List ℤ) (limit d : ℕ) (ws : List ℕ) (b : PathBuffers) → Samples16 xs → (signal_path_of xs limit d ws b).refusal ≡ 0 → Engine (state_of (Origin.signal-path xs limit d ws b))
signal-engine xs limit d ws b bits h =
    let none = sym (path-refusal xs limit d ws b) ∙ h in
    rw (← path-accepted xs limit d ws b none) (engine xs limit d ws b bits (path-solvable xs limit d ws b none))

-- The state after any accepted call.
origin-engine : (o : Origin) → Accepted o → Engine (state_of o)
origin-engine (Origin.older_build given t) h = older-engine given t h
origin-engine (Origin.signal-path xs limit d ws b) h = signal-engine xs limit d ws b h.0 h.1
origin-engine (Origin.split xs limit d ws p q b) h =
    rw (split-is xs limit d ws p q b h.1) (engine xs limit d ws b.path h.0 (asked xs limit d ws p q b h.1).solvable)
origin-engine (Origin.extension xs x limit b) h =
    let same = path-same xs x limit b h.0 h.1 h.2 in
    rw (same.path, same.entries)
    (signal-engine (xs ++ (x ∷ [])) limit 1 [] (path-lent xs x limit b h.0 h.1 h.2) h.0 (path-agreed xs x limit b h.0 h.1 h.2))

pub origin-claim : OriginClaim
origin-claim o h ms = engine-appends (state_of o) (origin-engine o h) ms
