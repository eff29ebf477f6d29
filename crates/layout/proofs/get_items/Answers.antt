-- `layout::get_items` meets its contract: after i turns the first i items are read.
use mathlib.Core.Path.{refl, ◌∙◌}
use Prim.Native.Nat.{ℕ, ◌+◌, ◌*◌, ◌≤◌}
use native.Mathlib.Omega.{arith}
use native.Mathlib.Numerals.{add-one}
use lib.ListN.{length}
use Rattle.std.proofs.lemmas.List.{map-id}
use Rattle.layout.specs.Items.{items_to}
use Rattle.layout.proofs.ItemLists.{read-more, read-all, one_more}
use Rattle.layout.proofs.get_items.Goals as goal

pub loop-i-init : goal.loop-i-init
unfolding items_to
loop-i-init c = refl

pub overflow_mul-width : goal.overflow_mul-width
overflow_mul-width c = let a = c.args in omega (arith, one_more a.width c.loop-i.i (length a.items.now) (length a.bytes.now) (omega arith) c.requires.1)

pub get-requires : goal.get-requires
get-requires c =
    let a = c.args in
    (c.requires.0, one_more a.width c.loop-i.i (length a.items.now) (length a.bytes.now) (omega arith) c.requires.1)

pub loop-i-preserved : goal.loop-i-preserved
loop-i-preserved c =
    let l = c.loop-i in
    rw add-one (read-more (λ (v : ℕ). v) c.args.width c.args.bytes.now l.items l.i c.get.result (omega arith) c.get.ensures l.invariant)

pub returns : goal.returns
returns c =
    let l = c.loop-i in
    read-all (λ (v : ℕ). v) c.args.width c.args.bytes.now l.items l.i _ (omega arith) (omega arith) l.invariant
    ∙ map-id (items_to c.args.width c.args.bytes.now (length c.args.items.now))
