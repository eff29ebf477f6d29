-- The paths that the engine left in byte strings. A history of appends on byte strings may begin with the path of an accepted build by
-- the older method, of a call on a signal or of an extension of a table as the calls on bytes left it. What is claimed of the path after
-- a build holds after these too, but for the count of tests.
use Rattle.std.specs.Prelude.{◌≡◌, List, [], ◌∷◌, ◌++◌, ℕ, ℤ}
use Rattle.coding.specs.Coding.{signeds}
use Rattle.coding.specs.Models.{models_coding}
use Rattle.path.specs.Model.{Model, Lists}
use Rattle.segment.specs.Segment.{Sample16}
use Rattle.signal.specs.SignalPath.{PathBuffers}
use Rattle.stream.specs.Extend.{StreamBuffers}
use Rattle.hull.specs.History.{State}
use Rattle.byte_paths.specs.Paths.{quadratic_bytes_of}
use Rattle.byte_signals.specs.Signals.{SignalStrings, signal_coding, path_coding, signal_path_bytes_of, SplitStrings, split_coding, split_bytes_of}
use Rattle.byte_streams.specs.Streams.{stream_coding, extend_bytes_of}
use Rattle.demands.specs.Signals.{state_with, sizes_occurring}
use Rattle.demands.specs.ByteHistories.{models_in, byte_appends, ByteEnginePath}
use Rattle.demands.specs.ByteStreams.{ByteLeft}

-- The call that a history begins with, by its input. It is as for calls on numbers, with byte strings for lists; a signal's samples and
-- weights come together, and the new sample of an extension is a number.
pub data ByteOrigin : Type 0 where
  older_build : Lists → Lists → ByteOrigin
  signal-path : SignalStrings → ℕ → ℕ → PathBuffers → ByteOrigin
  split : SignalStrings → ℕ → ℕ → ℕ → ℕ → SplitStrings → ByteOrigin
  extension : List ℕ → ℤ → ℕ → StreamBuffers → ByteOrigin

-- The strings hold bytes, and the call is accepted. The new sample of an extension is of 16 bits, and its table is as the calls on bytes
-- left it over the samples before.
abbrev pub ByteAccepted : ByteOrigin → Type 0
ByteAccepted (older_build given b) =
    models_coding.Held given × models_coding.Held b × ((quadratic_bytes_of given b).answer.refusal ≡ 0)
ByteAccepted (signal-path x limit d b) =
    signal_coding.Held x × path_coding.Held b × ((signal_path_bytes_of x limit d b).answer.refusal ≡ 0)
ByteAccepted (split x limit d p q b) =
    signal_coding.Held x × split_coding.Held b × ((split_bytes_of x limit d p q b).answer.refusal ≡ 0)
ByteAccepted (extension samples sample limit b) =
    signeds.Held samples × stream_coding.Held b × Sample16 sample × ByteLeft samples b.table
    × ((extend_bytes_of samples sample limit b).answer.refusal ≡ 0)

-- The state that the call leaves. The models are those of the numbers that the strings hold.
abbrev pub byte_state_of : ByteOrigin → State
byte_state_of (older_build given b) =
    let o = quadratic_bytes_of given b in state_with o.buffers o.answer.entries (models_in given)
byte_state_of (signal-path x limit d b) =
    let o = signal_path_bytes_of x limit d b in
    let read = signal_coding.numbers x in
    state_with o.buffers.lists o.answer.entries (sizes_occurring read.samples limit d read.weights)
byte_state_of (split x limit d p q b) =
    let o = split_bytes_of x limit d p q b in
    let read = signal_coding.numbers x in
    state_with o.buffers.path.lists o.answer.entries (sizes_occurring read.samples limit d read.weights)
byte_state_of (extension samples sample limit b) =
    let o = extend_bytes_of samples sample limit b in
    state_with o.buffers.path o.answer.entries (sizes_occurring (signeds.numbers samples ++ (sample ∷ [])) limit 1 [])

-- Whichever accepted call on byte strings a history begins with, and whichever appends on them follow, accepted or refused, the path is
-- the engine's.
abbrev pub ByteOriginClaim : Type 0
ByteOriginClaim = (o : ByteOrigin) → ByteAccepted o → (ms : List Model) → ByteEnginePath (byte_appends (byte_state_of o) ms)
