-- `path::check_model` meets its contract: each number is that of the first check that fails.
use mathlib.Core.Path.{sym, ◌∙◌}
use Prim.Native.Nat.{◌-◌}
use native.Mathlib.Omega.{arith}
use lib.ListN.{get_or}
use borrow.Author.Tests.{lt-ltb, le-ltb, le-leb, lt-leb}
use Rattle.path.specs.Model.{path_of}
use Rattle.path.specs.Refusal.{refusal_of}
use Rattle.path.specs.Inner.{model_of}
use Rattle.path.proofs.Order.{out_of_range, first_model, later-model}
use Rattle.path.proofs.check_model.Goals as goal

pub returns-then-not-in_range : goal.returns-then-not-in_range
returns-then-not-in_range g c =
    let a = c.args in
    let t = g.M.Models.held a.models.now in
    sym (out_of_range (path_of t a.entries) (model_of a.new) (sym c.in_range.ensures ∙ c.if-not-in_range.true))

pub returns-then-entries-eq0 : goal.returns-then-entries-eq0
returns-then-entries-eq0 g c =
    let a = c.args in
    let t = g.M.Models.held a.models.now in
    sym (first_model t a.entries (model_of a.new) (sym c.in_range.ensures ∙ c.if-not-in_range.false) c.if-entries-eq0.true)

pub returns-then-new-size_at : goal.returns-then-new-size_at
unfolding refusal_of
returns-then-new-size_at g c =
    let a = c.args in
    let t = g.M.Models.held a.models.now in
    let last = a.entries - 1 in
    sym (later-model t a.entries last (model_of a.new) (sym c.in_range.ensures ∙ c.if-not-in_range.false) (omega arith)
    ∙ rw (le-ltb (get_or t.sizes last 0) a.new.size (omega arith)))

pub returns-then-new-weight_at : goal.returns-then-new-weight_at
unfolding refusal_of
returns-then-new-weight_at g c =
    let a = c.args in
    let t = g.M.Models.held a.models.now in
    let last = a.entries - 1 in
    sym (later-model t a.entries last (model_of a.new) (sym c.in_range.ensures ∙ c.if-not-in_range.false) (omega arith)
    ∙ rw (lt-ltb (get_or t.sizes last 0) a.new.size (omega arith), le-ltb (get_or t.weights last 0) a.new.weight (omega arith)))

pub returns-then-loss_at-new : goal.returns-then-loss_at-new
unfolding refusal_of
returns-then-loss_at-new g c =
    let a = c.args in
    let t = g.M.Models.held a.models.now in
    let last = a.entries - 1 in
    sym (later-model t a.entries last (model_of a.new) (sym c.in_range.ensures ∙ c.if-not-in_range.false) (omega arith) ∙ rw (
      lt-ltb (get_or t.sizes last 0) a.new.size (omega arith),
      lt-ltb (get_or t.weights last 0) a.new.weight (omega arith),
      lt-leb a.new.loss (get_or t.losses last 0) (omega arith),
    ))

pub returns : goal.returns
unfolding refusal_of
returns g c =
    let a = c.args in
    let t = g.M.Models.held a.models.now in
    let last = a.entries - 1 in
    sym (later-model t a.entries last (model_of a.new) (sym c.in_range.ensures ∙ c.if-not-in_range.false) (omega arith) ∙ rw (
      lt-ltb (get_or t.sizes last 0) a.new.size (omega arith),
      lt-ltb (get_or t.weights last 0) a.new.weight (omega arith),
      le-leb a.new.loss (get_or t.losses last 0) (omega arith),
    ))
