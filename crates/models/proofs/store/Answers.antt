-- `models::store` meets its contract: with places to clear, and with none.
use mathlib.Core.Path.{ap, ◌∙◌}
use mathlib.Core.List.{List}
use Prim.Native.Nat.{ℕ, ◌+◌, ◌-◌}
use native.Mathlib.Omega.{arith}
use lib.ListN.{replicate, set, length-set}
use borrow.Rule.Slice.PartMut.{put_mid, mid_len}
use Rattle.models.specs.Entries.{lists_in}
use Rattle.models.specs.Inner.{no_entry}
use Rattle.path.specs.declared.storage.Entry.{Entry}
use Rattle.models.proofs.Stores.{lists-clears, lists-alone}
use Rattle.models.proofs.store.Goals as goal

pub returns-then-kept-n : goal.returns-then-kept-n
returns-then-kept-n c =
    let a = c.args in
    let e = a.kept + 1 in
    let s = set a.entries.now a.kept a.new in
    ap (λ (zs : List Entry). lists_in (put_mid e (a.n - e) s zs)) (c.fill.ensures.after (λ y h. h) ∙ ap (λ (m : ℕ). replicate m no_entry) (mid_len e a.n s (simp length-set (omega arith))))
    ∙ lists-clears a.entries.now a.kept a.n a.new c.requires.0 c.requires.1 c.if-kept-n.true

pub returns-else-kept-n : goal.returns-else-kept-n
returns-else-kept-n c = lists-alone c.args.entries.now c.args.kept c.args.n c.args.new c.requires.0 c.if-kept-n.false
