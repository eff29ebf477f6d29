-- What is claimed beside the demands, each proved in the file of its kind.
use mathlib.Core.Path.{◌≡◌, refl}
use Rattle.path.specs.Model.{path_of, values_of}
use Rattle.path.specs.Update.{holds, kept, tests_made, passed_over, tried, path_breakpoints}
use Rattle.path.specs.Refusal.{refusal_of, by_checks, ordered, valid_path, value_above, loss_not_above}
use Rattle.path.specs.Append.{append_of}
use Rattle.build.specs.Build.{built, built_tests, list_checks, build_of}
use Rattle.quadratic.specs.Quadratic.{nearest, next_size, entries_from, path_down, quadratic_of}
use Rattle.select.specs.Select.{selected_from, select_of}
use Rattle.select.specs.Breakpoints.{breakpoints_of}
use Rattle.segment.specs.Segment.{level, square, total, loss_at, segment_loss}
use Rattle.least.specs.Earliest.{earliest_least}
use Rattle.least.specs.Segmentation.{covered, loss_of, per_piece, loss_with_last, last_start, least, chosen_by}
use Rattle.weights.specs.Weights.{all_in_range, rising, fitting, weight_at}
use Rattle.signal.specs.Signal.{loss_below, path_by}
use Rattle.signal.specs.SignalPath.{signal_path_of}
use Rattle.signal.specs.Split.{split_of}
use Rattle.text.specs.Text.{bytes, same, onto_first, parts_of, all_digits, is_figure, value_from, is_sample, sample_of, digits_within, digits, whole_digits, two_text}
use Rattle.text.specs.Notes.{closes, begins, is_note}
use Rattle.report.specs.Forms.{all_samples, signal_form, limit_form, all_figures, weights_form, penalty_form, words_form, opens_with, form_of}
use Rattle.report.specs.Lines.{refusal_line, weight_text, model_text, breakpoint_text, entries_text, path_line, segment_text, segments_text, head_text, penalty_line}
use Rattle.report.specs.Report.{signal_turn, limit_turn, weights_turn, penalty_turn, turn_of, due_text, due_state, reached_text, reached_state, ended, printed, last_part, report_from, report_text}
use Rattle.demands.specs.Figures.{outcome_of}
use Rattle.demands.specs.Further.{long_report, Further}
use Rattle.hull.proofs.Histories.{between-claim}
use Rattle.hull.proofs.BadModels.{build-refusal-claim}
use Rattle.hull.proofs.Quadratics.{quadratic-steps-claim}
use Rattle.stream.proofs.LeftTables.{other-bytes-stay, earlier-claim}
use Rattle.demands.proofs.Signals.{scratch_cleared}
use Rattle.demands.proofs.Streams.{no-twelve-claim}
use Rattle.demands.proofs.Origins.{origin-claim}
use Rattle.demands.proofs.Penalties.{same-penalties}
use Rattle.demands.proofs.ByteHistories.{byte-never-eight-claim, byte-engine-claim, byte-breakpoints-claim}
use Rattle.demands.proofs.ByteRefusals.{byte-numbers}
use Rattle.demands.proofs.ByteStreams.{left-byte-claim, byte-earlier-claim, byte-no-twelve-claim, byte-extend-leaves, byte-extend-claim, byte-split-from-claim}
use Rattle.demands.proofs.ByteOrigins.{byte-origin-claim}
use Rattle.demands.proofs.EntryAnswers.{answered-history-claim, entry-never-eight-claim, entry-engine-claim, entry-origin-claim}
use Rattle.demands.proofs.EntryRefusals.{entry-refusals}
use Rattle.demands.proofs.Reports.{output-numbers, written-claim, refusal-texts}
use Rattle.demands.proofs.Inputs.{waits-claim, front-claim, front-end-claim, front-unended-claim, refused-line-claim, every-input, too-long-claim, printed-path-claim}
use Rattle.demands.proofs.NoteRules.{note-rule-claim}
use Rattle.demands.proofs.Layouts.{layout-claims}

long-figures : outcome_of long_report.call ≡ long_report.due
unfolding path_of values_of holds kept tests_made passed_over tried path_breakpoints refusal_of by_checks ordered valid_path
    value_above loss_not_above all_in_range rising fitting weight_at loss_below append_of built built_tests list_checks build_of
    nearest next_size entries_from path_down quadratic_of selected_from select_of breakpoints_of level square total loss_at
    segment_loss earliest_least covered loss_of per_piece loss_with_last last_start least chosen_by path_by signal_path_of split_of
    bytes same onto_first parts_of all_digits is_figure value_from is_sample sample_of digits_within digits whole_digits two_text
    closes begins is_note all_samples signal_form limit_form all_figures weights_form penalty_form words_form opens_with form_of
    refusal_line weight_text model_text breakpoint_text entries_text path_line segment_text segments_text head_text penalty_line
    signal_turn limit_turn weights_turn penalty_turn turn_of due_text due_state reached_text reached_state ended printed last_part
    report_from report_text
long-figures = refl

pub further : Further
further =
    record {
      one = record {
        byte_numbers = byte-numbers;
        entry_calls = entry-refusals;
        output_numbers = output-numbers;
        refusal_texts = refusal-texts;
        refused_lines = refused-line-claim;
        unended_lines = front-unended-claim;
        ended_inputs = front-end-claim;
        long_inputs = too-long-claim;
        every_input = every-input;
      };
      two = record {
        scratch_cleared = scratch_cleared;
        selection_between = between-claim;
        equal_everywhere = same-penalties;
        byte_engine = byte-engine-claim;
        byte_breakpoints = byte-breakpoints-claim;
        byte_never_eight = byte-never-eight-claim;
        entry_engine = entry-engine-claim;
        entry_never_eight = entry-never-eight-claim;
        build_refused_as_appends = build-refusal-claim;
        older_method_path = quadratic-steps-claim;
        table_others_stay = other-bytes-stay;
        table_earlier = earlier-claim;
        no_twelve = no-twelve-claim;
        byte_tables_back = left-byte-claim;
        byte_table_extended = byte-extend-leaves;
        byte_table_earlier = byte-earlier-claim;
        byte_no_twelve = byte-no-twelve-claim;
        layouts = layout-claims;
        note_rule = note-rule-claim;
        long_figures = long-figures;
      };
      three = record {
        origins = origin-claim;
        byte_origins = byte-origin-claim;
        byte_stream_splits_fresh = byte-split-from-claim;
        byte_stream_paths_fresh = byte-extend-claim;
        entry_answers = answered-history-claim;
        entry_origins = entry-origin-claim;
        reports_written = written-claim;
        reports_go_on = front-claim;
        paths_withheld = waits-claim;
        printed_paths = printed-path-claim;
      };
    }
