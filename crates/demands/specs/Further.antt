-- What is claimed beside the demands: of every form of a call, of every line of a report, and of what a caller may do between calls.
-- Nothing of this is asked by the demands of `Demands`, which stand as they were.
use Rattle.text.specs.Text.{bytes}
use Rattle.demands.specs.Figures.{Call, Outcome, Row, outcome_of}
use Rattle.hull.specs.Claims.{BuildRefusalClaim, QuadraticStepsClaim, BetweenClaim}
use Rattle.stream.specs.Claims.{OtherBytesStay, EarlierClaim}
use Rattle.demands.specs.Signals.{ScratchCleared}
use Rattle.demands.specs.Streams.{NoTwelveClaim}
use Rattle.demands.specs.Origins.{OriginClaim}
use Rattle.demands.specs.Penalties.{SamePenalties}
use Rattle.demands.specs.ByteHistories.{ByteNeverEightClaim, ByteEngineClaim, ByteBreakpointsClaim}
use Rattle.demands.specs.ByteRefusals.{ByteNumbers}
use Rattle.demands.specs.ByteStreams.{LeftByteClaim, ByteEarlierClaim, ByteNoTwelveClaim, ByteExtendLeaves, ByteExtendClaim, ByteSplitFromClaim}
use Rattle.demands.specs.ByteOrigins.{ByteOriginClaim}
use Rattle.demands.specs.EntryAnswers.{AnsweredHistoryClaim, EntryNeverEightClaim, EntryEngineClaim, EntryOriginClaim}
use Rattle.demands.specs.EntryRefusals.{EntryRefusals}
use Rattle.demands.specs.Reports.{OutputNumbers, WrittenClaim, RefusalTexts}
use Rattle.demands.specs.Inputs.{WaitsClaim, FrontClaim, FrontEndClaim, FrontUnendedClaim, RefusedLineClaim, EveryInput, TooLongClaim, PrintedPathClaim}
use Rattle.demands.specs.NoteRules.{NoteRuleClaim}
use Rattle.demands.specs.Layouts.{LayoutClaims}
use Rattle.std.specs.Prelude.{◌≡◌}

-- A report with figures of several digits and a level below zero.
abbrev pub long_report : Row
long_report =
    record {
      call = Call.report (bytes "(record 0 41 43 40 20 19 -1)\n(limit 5)\n(price 600 2)\n(price 50 0)\n(price 50 1)\n");
      due = Outcome.text_is (bytes "(path (size 1 loss 2143) (break 1857 2) (size 3 loss 286) (break 280 1) (size 4 loss 6) (break 3 1) (size 5 loss 3))\n(price 600 2 (runs 3) (loss 286) (run 1 1 0) (run 2 4 41) (run 5 7 13))\n(refused 4)\n(price 50 1 (runs 4) (loss 6) (run 1 1 0) (run 2 4 41) (run 5 6 19) (run 7 7 -1))\n");
    }

-- Beside demand 1, that a call answers the number of the first check that fails: which numbers each form answers; each call on entries
-- answers so too. And of a report: after any lines in order a line gets the number of the first of its checks that fails, and after a
-- number other than 4 the text ends. A line without its end gets 11, and so does the end without a signal or a limit and an input that
-- is too long. Every input is lines in order with such an ending.
pub record FurtherOne : Type 0 where
  pub byte_numbers : ByteNumbers
  pub entry_calls : EntryRefusals
  pub output_numbers : OutputNumbers
  pub refusal_texts : RefusalTexts
  pub refused_lines : RefusedLineClaim
  pub unended_lines : FrontUnendedClaim
  pub ended_inputs : FrontEndClaim
  pub long_inputs : TooLongClaim
  pub every_input : EveryInput

-- Beside demand 2: a selection goes by the breakpoints as (7) says; equal fractions are equal penalties for every call in each of its
-- forms; a build is refused for a model as its appends are; the older method goes by its steps, from the largest model to the smallest;
-- what is said of selections and breakpoints holds after histories of calls on byte strings and on entries too; a table is one for fewer
-- samples, and an extension touches no other byte of it; a table as the calls on numbers left it is one as those on byte strings leave
-- it; an accepted call on a signal clears its scratch; and it is written out which numbers byte strings, entries and tables spell, and
-- which lines are notes.
pub record FurtherTwo : Type 0 where
  pub scratch_cleared : ScratchCleared
  pub selection_between : BetweenClaim
  pub equal_everywhere : SamePenalties
  pub byte_engine : ByteEngineClaim
  pub byte_breakpoints : ByteBreakpointsClaim
  pub byte_never_eight : ByteNeverEightClaim
  pub entry_engine : EntryEngineClaim
  pub entry_never_eight : EntryNeverEightClaim
  pub build_refused_as_appends : BuildRefusalClaim
  pub older_method_path : QuadraticStepsClaim
  pub table_others_stay : OtherBytesStay
  pub table_earlier : EarlierClaim
  pub no_twelve : NoTwelveClaim
  pub byte_tables_back : LeftByteClaim
  pub byte_table_extended : ByteExtendLeaves
  pub byte_table_earlier : ByteEarlierClaim
  pub byte_no_twelve : ByteNoTwelveClaim
  pub layouts : LayoutClaims
  pub note_rule : NoteRuleClaim
  pub long_figures : outcome_of long_report.call ≡ long_report.due

-- Beside demand 3: appends may also follow the path of a build by the older method, of a call on a signal or of an extension of a table
-- as the calls left it; then the tests are not counted. And what a report prints for lines in order stays, whatever follows them.
pub record FurtherThree : Type 0 where
  pub origins : OriginClaim
  pub byte_origins : ByteOriginClaim
  pub byte_stream_splits_fresh : ByteSplitFromClaim
  pub byte_stream_paths_fresh : ByteExtendClaim
  pub entry_answers : AnsweredHistoryClaim
  pub entry_origins : EntryOriginClaim
  pub reports_written : WrittenClaim
  pub reports_go_on : FrontClaim
  pub paths_withheld : WaitsClaim
  pub printed_paths : PrintedPathClaim

pub record Further : Type 0 where
  pub one : FurtherOne
  pub two : FurtherTwo
  pub three : FurtherThree
