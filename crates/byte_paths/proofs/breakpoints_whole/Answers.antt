-- `byte_paths::breakpoints_whole` meets its contract: refused by its checks, or the breakpoints written.
use mathlib.Core.Path.{◌≡◌, refl, ap, sym, ◌∙◌}
use mathlib.Core.List.{List}
use Prim.Native.Nat.{ℕ, ◌/◌}
use native.Mathlib.Omega.{arith}
use lib.ListN.{length}
use Rattle.std.proofs.lemmas.Result.{err_from_is_err_and}
use Rattle.layout.specs.Items.{items_of}
use Rattle.layout.proofs.ItemLists.{length-items}
use Rattle.coding.specs.Models.{models_coding}
use Rattle.coding.specs.Inner.{strings_of}
use Rattle.coding.proofs.Calls.{encoded-refused, encoded-accepted}
use Rattle.path.specs.Model.{Lists}
use Rattle.path.specs.Numbers.{number_of}
use Rattle.path.proofs.Numbers.{number_some}
use Rattle.path.specs.Refusal.{refusal_of}
use Rattle.select.specs.Breakpoints.{breakpoints_checks}
use Rattle.select.proofs.Listings.{breakpoints-refused, listable, breakpoints-done}
use Rattle.byte_paths.specs.Paths.{fractions, fractions_coding, breakpoints_answers, breakpoints_told, breakpoints_call}
use Rattle.byte_paths.proofs.breakpoints_whole.Goals as goal

-- The refusal goes by whole items.
refusal-is : (given : Lists) (numerators denominators : List ℕ) (n refusal : ℕ)
    → refusal ≡ refusal_of (breakpoints_checks given n (length numerators / 8) (length denominators / 2))
    → refusal ≡ refusal_of (breakpoints_checks given n (length (items_of 8 numerators)) (length (items_of 2 denominators)))
refusal-is given numerators denominators n refusal e =
    e ∙ (λ i. refusal_of (breakpoints_checks given n (sym (length-items 8 numerators (length numerators / 8)) i) (sym (length-items 2 denominators (length denominators / 2)) i)))

pub returns-in_err-count : goal.returns-in_err-count
returns-in_err-count c =
    let a = c.args in
    let given = models_coding.numbers (strings_of a.models.now) in
    let buffers = fractions a.numerators.now a.denominators.now in
    let held = fractions_coding.numbers buffers in
    let r = c.in_err-count.field-0.0 in
    let p = err_from_is_err_and c.from_residual.result c.from_residual.ensures.1 in
    let refusal = refusal-is given a.numerators.now a.denominators.now a.entries (number_of r) c.in_err-count.ensures.refusal in
    let e = breakpoints-refused given a.entries held.numerators held.denominators (number_of r) refusal (number_some r) in
    rw (p.1, p.2) (encoded-refused fractions_coding breakpoints_answers buffers (breakpoints_call a.entries given held) (number_of r) (number_some r) held (ap breakpoints_told e))

pub write_breakpoints-requires : goal.write_breakpoints-requires
write_breakpoints-requires c =
    let a = c.args in
    let given = models_coding.numbers (strings_of a.models.now) in
    let held = fractions_coding.numbers (fractions a.numerators.now a.denominators.now) in
    let refusal = refusal-is given a.numerators.now a.denominators.now a.entries 0 c.in_ok-count.ensures.refusal in
    record {
      listable = listable given a.entries held.numerators held.denominators (sym refusal) c.in_ok-count.count c.in_ok-count.ensures.counted;
      numerators_whole = omega (arith, c.requires);
      denominators_whole = omega (arith, c.requires);
    }

pub returns : goal.returns
returns c =
    let a = c.args in
    let given = models_coding.numbers (strings_of a.models.now) in
    let buffers = fractions a.numerators.now a.denominators.now in
    let held = fractions_coding.numbers buffers in
    let refusal = refusal-is given a.numerators.now a.denominators.now a.entries 0 c.in_ok-count.ensures.refusal in
    let e = breakpoints-done given a.entries held.numerators held.denominators (sym refusal) c.in_ok-count.count c.in_ok-count.ensures.counted _ _ refl refl in
    let numerators = c.write_breakpoints.ensures.0.is given.sizes in
    let denominators = c.write_breakpoints.ensures.1.is given.sizes in
    encoded-accepted fractions_coding breakpoints_answers buffers (breakpoints_call a.entries given held) _ refl _ (ap breakpoints_told e) _ (λ i. fractions (numerators i) (denominators i))
