-- `byte_paths::build_items` meets its contract: the models are read to three lists, the path is built there, and where that is accepted
-- the lists are written to the buffers.
use mathlib.Core.Path.{◌≡◌, refl, sym, ap, ◌∙◌}
use lib.ListN.{length}
use mathlib.Core.Bool.{true, false, false≢true}
use Rattle.std.specs.Prelude.{is_err}
use Rattle.std.proofs.Common.{Result, Ok, Err}
use Rattle.coding.specs.Models.{models_coding}
use Rattle.coding.specs.Inner.{ListsFit, ModelsRead, strings_of}
use Rattle.coding.proofs.Models.{models_cut, models-held, models-fit, models-hold}
use Rattle.coding.proofs.Calls.{strings-stay, strings-written}
use Rattle.path.specs.Model.{Lists, lists}
use Rattle.path.specs.Inner.{first_places, answer_of}
use Rattle.path.specs.declared.Kept.{Kept}
use Rattle.path.specs.declared.refusal.Refusal.{Refusal}
use Rattle.path.proofs.Numbers.{number_some}
use Rattle.build.specs.Build.{count_of}
use Rattle.byte_paths.specs.Paths.{path_answers}
use Rattle.byte_paths.specs.Inner.{models_read}
use Rattle.byte_paths.proofs.PathCuts.{call, build-read, build-refused, build-accepted, build-fits}
use Rattle.byte_paths.proofs.build_items.Goals as goal

-- The models of the strings x that a build looks at.
abbrev first : Lists → Lists
first x = first_places models_read (models_coding.numbers x)

-- They are what lists that fit them are left as.
read-is : (x items read : Lists)
    → ListsFit models_read x (length items.sizes) (length items.losses) (length items.weights)
    → ModelsRead x.sizes x.losses x.weights read.sizes read.losses read.weights (length items.sizes) (length items.losses) (length items.weights)
    → read ≡ first x
read-is x items read fit r =
    (λ i. lists (r.sizes_are i) (r.losses_are i) (r.weights_are i)) ∙ (models_cut models_read).reads x items (models-fit x fit items refl refl refl)

-- An answer with a refusal has its number, which is not 0, and one with none has 0.
refused : (r : Result Kept Refusal) → is_err r ≡ true → (answer_of r).refusal ≡ 0 → ⊥
refused (Ok k) h = absurd (false≢true h)
refused (Err e) h = number_some e

accepted : (r : Result Kept Refusal) → is_err r ≡ false → (answer_of r).refusal ≡ 0
accepted (Ok k) h = refl
accepted (Err e) h = absurd (false≢true (sym h))

pub read-requires : goal.read-requires
read-requires g c =
    let a = c.args in
    models-hold (strings_of a.models.now) c.requires.given refl refl refl

pub returns-then-is_err : goal.returns-then-is_err
returns-then-is_err g c =
    let a = c.args in
    let m = g.M.Method in
    let few = g.met.M.Method.few in
    let x = strings_of a.models.now in
    let b : Lists = lists a.path_sizes.now a.path_losses.now a.path_weights.now in
    let r = c.read.new in
    let read : Lists = lists r.size_items r.loss_items r.weight_items in
    let is = read-is x (lists a.size_items.now a.loss_items.now a.weight_items.now) read c.requires.given c.read.ensures in
    let made-is = build-read m.path m.tests few x b _ read is c.build_within-made.ensures in
    let made = c.build_within-made.result in
    let some = refused made (sym c.is_err.ensures.value ∙ c.if-is_err.true) in
    strings-stay models_coding models_coding path_answers (call m.path m.tests few x b) x b c.requires.whole (answer_of made) some
    (build-refused m.path m.tests few x b _ made-is some)

pub write_models-requires : goal.write_models-requires
write_models-requires g c =
    let a = c.args in
    let m = g.M.Method in
    let few = g.met.M.Method.few in
    let x = strings_of a.models.now in
    let b : Lists = lists a.path_sizes.now a.path_losses.now a.path_weights.now in
    let r = c.read.new in
    let read : Lists = lists r.size_items r.loss_items r.weight_items in
    let is = read-is x (lists a.size_items.now a.loss_items.now a.weight_items.now) read c.requires.given c.read.ensures in
    let made-is = build-read m.path m.tests few x b _ read is c.build_within-made.ensures in
    let whole = accepted c.build_within-made.result (sym c.is_err.ensures.value ∙ c.if-is_err.false) in
    let stays = c.build_within-made.auto in
    models-hold b (build-fits m.path m.tests few x b _ made-is whole)
    (stays.sizes ∙ ap (λ (t : Lists). length t.sizes) is)
    (stays.losses ∙ ap (λ (t : Lists). length t.losses) is)
    (stays.weights ∙ ap (λ (t : Lists). length t.weights) is)

pub returns : goal.returns
returns g c =
    let a = c.args in
    let m = g.M.Method in
    let few = g.met.M.Method.few in
    let x = strings_of a.models.now in
    let b : Lists = lists a.path_sizes.now a.path_losses.now a.path_weights.now in
    let r = c.read.new in
    let read : Lists = lists r.size_items r.loss_items r.weight_items in
    let is = read-is x (lists a.size_items.now a.loss_items.now a.weight_items.now) read c.requires.given c.read.ensures in
    let made-is = build-read m.path m.tests few x b _ read is c.build_within-made.ensures in
    let whole = accepted c.build_within-made.result (sym c.is_err.ensures.value ∙ c.if-is_err.false) in
    let stays = c.build_within-made.auto in
    let n = c.build_within-made.new in
    let left : Lists = lists n.sizes n.losses n.weights in
    let w = c.write_models.ensures in
    let fit = build-fits m.path m.tests few x b _ made-is whole in
    strings-written models_coding models_coding path_answers (call m.path m.tests few x b) x b c.requires.whole (answer_of c.build_within-made.result) whole
    (models-held b c.slice_known-1.given c.slice_known-2-1.given c.slice_known-3-1.given)
    (models_cut (count_of (first x))) left
    (build-accepted m.path m.tests few x b _ made-is whole)
    (models-fit b fit left
    (stays.sizes ∙ ap (λ (t : Lists). length t.sizes) is)
    (stays.losses ∙ ap (λ (t : Lists). length t.losses) is)
    (stays.weights ∙ ap (λ (t : Lists). length t.weights) is))
    _ (λ i. lists (w.sizes_are i) (w.losses_are i) (w.weights_are i))
