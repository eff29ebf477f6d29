-- However a history on byte strings begins, its first path is that of the call on the numbers that the strings hold, encoded. It fits, so
-- that the appends on bytes are those on numbers, encoded, and what they leave is one of the engine's paths.
use mathlib.Core.Path.{◌≡◌, sym, subst}
use mathlib.Core.Bool.{true}
use Rattle.coding.specs.Coding.{signeds}
use Rattle.coding.specs.Models.{models_coding}
use Rattle.coding.proofs.Claims.{accepted-too, accepted-encoded}
use Rattle.hull.proofs.Quadratics.{quadratic-claim}
use Rattle.byte_paths.specs.Paths.{path_answers, build_call}
use Rattle.byte_signals.specs.Signals.{signal_coding, path_coding, signal_path_answers, signal_path_call, split_coding, split_answers, split_call}
use Rattle.byte_streams.specs.Streams.{stream_coding, extend_answers, extend_call}
use Rattle.demands.specs.Origins.{Origin, Accepted, state_of}
use Rattle.demands.specs.Signals.{state_with, sizes_occurring}
use Rattle.demands.specs.ByteHistories.{models_in}
use Rattle.demands.specs.ByteOrigins.{ByteOrigin, ByteAccepted, byte_state_of, ByteOriginClaim}
use Rattle.demands.proofs.Origins.{origin-claim}
use Rattle.demands.proofs.Fitting.{models_fit}
use Rattle.demands.proofs.ByteHistories.{FitsIn, FitsState, fits-build, encoded, appends-engine}
use Rattle.demands.proofs.ByteSignals.{samples_fit, path_fit, path-fits, split-fits}
use Rattle.demands.proofs.ByteStreams.{byte-left-claim, all_fit, extension-fits}

-- The call on the numbers that the strings hold.
abbrev as_numbers : ByteOrigin → Origin
as_numbers (ByteOrigin.older_build given b) = Origin.older_build (models_coding.numbers given) (models_coding.numbers b)
as_numbers (ByteOrigin.signal-path x limit d b) =
    let read = signal_coding.numbers x in Origin.signal-path read.samples limit d read.weights (path_coding.numbers b)
as_numbers (ByteOrigin.split x limit d p q b) =
    let read = signal_coding.numbers x in Origin.split read.samples limit d read.weights p q (split_coding.numbers b)
as_numbers (ByteOrigin.extension samples sample limit b) = Origin.extension (signeds.numbers samples) sample limit (stream_coding.numbers b)

-- What is known of it where the call on bytes is accepted: it is accepted too, and the state that it leaves, which fits, is encoded.
record Encoded (o : ByteOrigin) : Type 0 where
  pub accepted : Accepted (as_numbers o)
  pub is : byte_state_of o ≡ encoded (state_of (as_numbers o))
  pub fit : FitsState (state_of (as_numbers o))

-- So it is with each call.
origin-encoded : (o : ByteOrigin) → ByteAccepted o → Encoded o
origin-encoded (ByteOrigin.older_build given b) (models, held, h) =
    let x = models_coding.numbers given in
    let t = models_coding.numbers b in
    let same = accepted-encoded models_coding models_coding path_answers (build_call true) given b h in
    record {
      accepted = accepted-too models_coding models_coding path_answers (build_call true) given b h;
      is = sym (λ i. state_with (same i).buffers (same i).answer.entries (models_in given));
      fit = subst FitsIn (sym (quadratic-claim x t).whole) (fits-build t (models_fit.held-fit b held) x (models_fit.held-fit given models));
    }
origin-encoded (ByteOrigin.signal-path x limit d b) (bytes, held, h) =
    let read = signal_coding.numbers x in
    let bits = samples_fit x.samples bytes.0 in
    let ok = accepted-too signal_coding path_coding signal_path_answers (signal_path_call limit d) x b h in
    let same = accepted-encoded signal_coding path_coding signal_path_answers (signal_path_call limit d) x b h in
    record {
      accepted = (bits, ok);
      is = sym (λ i. state_with (same i).buffers.lists (same i).answer.entries (sizes_occurring read.samples limit d read.weights));
      fit = path-fits read.samples limit d read.weights (path_coding.numbers b) bits ok (path_fit.held-fit b held).0;
    }
origin-encoded (ByteOrigin.split x limit d p q b) (bytes, held, h) =
    let read = signal_coding.numbers x in
    let ok = accepted-too signal_coding split_coding split_answers (split_call limit d p q) x b h in
    let same = accepted-encoded signal_coding split_coding split_answers (split_call limit d p q) x b h in
    record {
      accepted = (samples_fit x.samples bytes.0, ok);
      is = sym (λ i. state_with (same i).buffers.path.lists (same i).answer.entries (sizes_occurring read.samples limit d read.weights));
      fit = (split-fits x limit d p q b bytes held ok).1.1.0;
    }
origin-encoded (ByteOrigin.extension samples sample limit b) (bytes, held, bits, table, h) =
    let same = accepted-encoded signeds stream_coding extend_answers (extend_call sample limit) samples b h in
    let models = (state_of (as_numbers (ByteOrigin.extension samples sample limit b))).models in
    record {
      accepted = (
        all_fit samples sample bytes bits,
        byte-left-claim samples b.table table,
        accepted-too signeds stream_coding extend_answers (extend_call sample limit) samples b h,
      );
      is = sym (λ i. state_with (same i).buffers.path (same i).answer.entries models);
      fit = extension-fits samples sample limit b bytes bits table h held;
    }

pub byte-origin-claim : ByteOriginClaim
byte-origin-claim o h ms =
    let r = origin-encoded o h in
    appends-engine (byte_state_of o) (state_of (as_numbers o)) r.is r.fit ms (origin-claim (as_numbers o) r.accepted ms)
