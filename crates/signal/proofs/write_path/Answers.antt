-- `signal::write_path` meets its contract: the path of the losses, then zeros after it.
use mathlib.Core.Path.{ap, ◌∙◌}
use Prim.Native.Nat.{ℕ, ◌-◌}
use native.Mathlib.Omega.{arith}
use lib.ListN.{length, replicate}
use borrow.Rule.Slice.PartMut.{put_mid, mid_len}
use Rattle.path.specs.Model.{lists}
use Rattle.signal.proofs.Paths.{written}
use Rattle.signal.proofs.write_path.Goals as goal

pub returns : goal.returns
returns c =
    let f = c.fill_path-entries in
    let a = c.args in
    let pre = c.requires in
    let k = f.result in
    let n = a.places in
    let t₀ = lists a.path_sizes.now a.path_losses.now a.path_weights.now in
    let s = f.new.path_sizes in
    let l = f.new.path_losses in
    let w = f.new.path_weights in
    written _ (length a.losses.now) n t₀ (lists s l w) (lists _ _ _) k f.ensures pre.within pre.fits pre.few
    (ap (put_mid k (n - k) s) (c.fill.ensures.after (λ y e. e) ∙ ap (λ (m : ℕ). replicate m 0) (mid_len k n s (omega (arith, pre.fits.in_sizes, f.ensures.sizes.long)))))
    (ap (put_mid k (n - k) l) (c.fill-2.ensures.after (λ y e. e) ∙ ap (λ (m : ℕ). replicate m 0) (mid_len k n l (omega (arith, pre.fits.in_losses, f.ensures.losses.long)))))
    (ap (put_mid k (n - k) w) (c.fill-3.ensures.after (λ y e. e) ∙ ap (λ (m : ℕ). replicate m 0) (mid_len k n w (omega (arith, pre.fits.in_weights, f.ensures.weights.long)))))
