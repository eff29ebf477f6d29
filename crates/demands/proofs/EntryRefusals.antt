-- A call on entries refuses as its contract says that the call on numbers does, and the three lists of numbers that stay fix the list.
use mathlib.Core.Path.{◌≡◌, sym, subst}
use mathlib.Core.Bool.{Bool, true, false}
use mathlib.Core.List.{List}
use lib.ListN.{length}
use Rattle.coding.specs.Coding.{outcome}
use Rattle.path.specs.Model.{lengths}
use Rattle.path.specs.Refusal.{Check}
use Rattle.path.specs.Append.{PathOutcome, path_outcome, path_refused}
use Rattle.path.specs.declared.PathResult.{PathResult}
use Rattle.build.specs.Build.{build_checks}
use Rattle.quadratic.specs.Quadratic.{build_by}
use Rattle.select.specs.Select.{select_checks, select_refused}
use Rattle.select.specs.Breakpoints.{BreakpointsOutcome, breakpoints_checks, breakpoints_refused}
use Rattle.select.specs.declared.SelectResult.{SelectResult}
use Rattle.hull.specs.Refusals.{RefusesByChecks}
use Rattle.hull.proofs.Orders.{path-refusals}
use Rattle.models.specs.Entries.{lists_in}
use Rattle.path.specs.declared.storage.Entry.{Entry}
use Rattle.demands.specs.EntryRefusals.{EntryRefusal, EntryRefusals}
use Rattle.demands.proofs.EntryHistories.{entries_fixed}

-- What a call on numbers leaves answers checks in order, and what it leaves where it is refused are the numbers of the list.
abbrev Refuses : List Check → List Entry → PathOutcome → Type 0
Refuses checks list = RefusesByChecks checks (λ (o : PathOutcome). o.refusal) (path_refused (lists_in list))

-- So does an answer with a list that holds these numbers.
refuses-on-entries : (checks : List Check) (list y : List Entry) (r : PathResult) (o : PathOutcome) → Refuses checks list o → path_outcome r (lists_in y) ≡ o
    → EntryRefusal checks list r y
refuses-on-entries checks list y r o h e =
    let refuses : Refuses checks list (path_outcome r (lists_in y)) = subst (Refuses checks list) (sym e) h in
    record {
      in_order = refuses.in_order;
      nothing_altered = λ c p z.
          let same = refuses.nothing_altered c p z in
          let kept = entries_fixed y list (λ i. (same i).buffers) in
          λ i. outcome (record { refusal = (same i).refusal; entries = (same i).entries; tests = record { count = (same i).tests } }) (kept i);
    }

-- A build by either method refuses by the same checks.
build-refuses : (older : Bool) (models list : List Entry) → Refuses (build_checks (lists_in models) (lengths (lists_in list))) list (build_by older (lists_in models) (lists_in list))
build-refuses true models list = path-refusals.quadratic (lists_in models) (lists_in list)
build-refuses false models list = path-refusals.build (lists_in models) (lists_in list)

pub entry-refusals : EntryRefusals
entry-refusals =
    record {
      append = λ list n m r y. refuses-on-entries _ list y r _ (path-refusals.append (lists_in list) n m);
      build = λ older models list r y. refuses-on-entries _ list y r _ (build-refuses older models list);
      select = λ list n p q r e.
          subst (RefusesByChecks (select_checks (lists_in list) n p q) (λ (s : SelectResult). s.refusal) select_refused) (sym e)
          (path-refusals.select (lists_in list) n p q);
      breakpoints = λ list n a b r a' b' e.
          subst
          (RefusesByChecks (breakpoints_checks (lists_in list) n (length a) (length b)) (λ (o : BreakpointsOutcome). o.refusal) (breakpoints_refused a b))
          (sym e)
          (path-refusals.breakpoints (lists_in list) n a b);
    }
