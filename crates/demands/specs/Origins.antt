-- The paths that the engine left. A history of appends may begin with the path of an accepted build by the older method, of a call on a
-- signal or of an extension of a table as the calls left it. What is claimed of the path after a build holds after these too, but for
-- the count of tests.
use Rattle.std.specs.Prelude.{◌≡◌, List, [], ◌∷◌, ◌++◌, ℕ, ℤ}
use Rattle.path.specs.Model.{Model, Lists}
use Rattle.quadratic.specs.Quadratic.{quadratic_of}
use Rattle.hull.specs.History.{State, models_of, appends}
use Rattle.hull.specs.Claims.{EnginePath}
use Rattle.segment.specs.Segment.{Samples16}
use Rattle.signal.specs.SignalPath.{PathBuffers, signal_path_of}
use Rattle.signal.specs.Split.{SplitBuffers, split_of}
use Rattle.stream.specs.Extend.{StreamBuffers, extend_of}
use Rattle.stream.specs.Claims.{Left}
use Rattle.demands.specs.Signals.{state_with, sizes_occurring}

-- The call that a history begins with, by its input: a build by the older method, of the lists and the buffers; a call for a signal's
-- path and a split, of the samples, the limit, the least number of samples of a segment, the weights, for a split the penalty, and the
-- buffers; an extension, of the samples so far, the new one, the limit and the buffers.
pub data Origin : Type 0 where
  older_build : Lists → Lists → Origin
  signal-path : List ℤ → ℕ → ℕ → List ℕ → PathBuffers → Origin
  split : List ℤ → ℕ → ℕ → List ℕ → ℕ → ℕ → SplitBuffers → Origin
  extension : List ℤ → ℤ → ℕ → StreamBuffers → Origin

-- The call is accepted. The samples are of 16 bits, and the table of an extension is as the calls left it.
abbrev pub Accepted : Origin → Type 0
Accepted (older_build given t) = (quadratic_of given t).refusal ≡ 0
Accepted (signal-path samples limit d weights b) =
    Samples16 samples × ((signal_path_of samples limit d weights b).refusal ≡ 0)
Accepted (split samples limit d weights p q b) = Samples16 samples × ((split_of samples limit d weights p q b).refusal ≡ 0)
Accepted (extension samples sample limit b) =
    Samples16 (samples ++ (sample ∷ [])) × Left samples b.table × ((extend_of samples sample limit b).refusal ≡ 0)

-- The state that the call leaves. The models of a build are those of its lists, and those of a signal all sizes that occur.
abbrev pub state_of : Origin → State
state_of (older_build given t) = let o = quadratic_of given t in state_with o.buffers o.entries (models_of given)
state_of (signal-path samples limit d weights b) =
    let o = signal_path_of samples limit d weights b in
    state_with o.buffers.lists o.entries (sizes_occurring samples limit d weights)
state_of (split samples limit d weights p q b) =
    let o = split_of samples limit d weights p q b in
    state_with o.buffers.path.lists o.entries (sizes_occurring samples limit d weights)
state_of (extension samples sample limit b) =
    let o = extend_of samples sample limit b in
    state_with o.buffers.path o.entries (sizes_occurring (samples ++ (sample ∷ [])) limit 1 [])

-- Whichever accepted call a history begins with, and whichever appends follow, accepted or refused, the path is the engine's.
abbrev pub OriginClaim : Type 0
OriginClaim = (o : Origin) → Accepted o → (ms : List Model) → EnginePath (appends (state_of o) ms)
