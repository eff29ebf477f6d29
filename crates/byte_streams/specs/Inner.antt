-- What the inner functions ask for. A reader of the calls need not believe anything that stands here.
use Rattle.std.specs.Prelude.{◌≡◌, List, ℕ, ◌+◌, ◌/◌, min, length}
use Rattle.coding.specs.Coding.{signeds}
use Rattle.coding.specs.Inner.{ListsFit}
use Rattle.stream.specs.Table.{max_rows}
use Rattle.stream.specs.Extend.{StreamBuffers}
use Rattle.byte_signals.specs.Inner.{read_samples}
use Rattle.byte_streams.specs.Streams.{stream_coding, SegmentStrings, segments_coding}

-- No byte is left over, and four lists have as many places as there are samples and items of the path's buffers to look at.
pub record ExtendFits (samples : List ℕ) (b : StreamBuffers) (n s k w : ℕ) : Type 0 where
  pub whole : signeds.spare samples + stream_coding.spare b ≡ 0
  pub samples_fit : n ≡ min (length samples / 2) read_samples
  pub fit : ListsFit max_rows b.path s k w

-- No byte is left over, and three lists have as many places as there are samples and items of the buffers to look at.
pub record SplitFromFits (samples : List ℕ) (b : SegmentStrings) (n a l : ℕ) : Type 0 where
  pub whole : signeds.spare samples + segments_coding.spare b ≡ 0
  pub samples_fit : n ≡ min (length samples / 2) read_samples
  pub starts_fit : a ≡ min (length b.starts / 2) max_rows
  pub levels_fit : l ≡ min (length b.levels / 2) max_rows
