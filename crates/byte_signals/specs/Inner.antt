-- What the inner functions ask for. A reader of the calls need not believe anything that stands here.
use Rattle.std.specs.Prelude.{◌≡◌, ℕ, suc, ◌+◌, ◌/◌, min, length}
use Rattle.coding.specs.Inner.{ListsFit}
use Rattle.segment.specs.Segment.{max_samples}
use Rattle.least.specs.Segmentation.{max_segments}
use Rattle.signal.specs.SignalPath.{PathBuffers}
use Rattle.byte_signals.specs.declared.ByteSignal.{ByteSignal}
use Rattle.byte_signals.specs.Signals.{SignalStrings, signal_strings, signal_coding, path_coding, SplitStrings, split_coding}

-- The most samples that are read, one more than a signal may have.
abbrev pub read_samples : ℕ
read_samples = suc max_samples

-- The most weights that are kept, one more than the largest limit.
abbrev pub read_weights : ℕ
read_weights = suc max_segments

-- The strings of a signal in byte strings.
abbrev pub strings_in : ByteSignal → SignalStrings
strings_in s = signal_strings s.samples.now s.weights.now

-- Two lists have as many places as there are samples and weights to keep.
pub record InputFits (x : SignalStrings) (n v : ℕ) : Type 0 where
  pub samples_fit : n ≡ min (length x.samples / 2) read_samples
  pub weights_fit : v ≡ min (length x.weights / 2) read_weights

-- No byte is left over, and five lists have as many places as there are items of what is read and of the buffers to look at.
pub record PathFits (x : SignalStrings) (b : PathBuffers) (n v s k w : ℕ) : Type 0 where
  pub whole : signal_coding.spare x + path_coding.spare b ≡ 0
  pub input : InputFits x n v
  pub fit : ListsFit max_segments b.lists s k w

-- No byte is left over, and seven lists have as many places as there are items of what is read and of the buffers to look at.
pub record SplitFits (x : SignalStrings) (b : SplitStrings) (n v a l s k w : ℕ) : Type 0 where
  pub whole : signal_coding.spare x + split_coding.spare b ≡ 0
  pub input : InputFits x n v
  pub starts_fit : a ≡ min (length b.starts / 2) max_segments
  pub levels_fit : l ≡ min (length b.levels / 2) max_segments
  pub fit : ListsFit max_segments b.path.lists s k w
