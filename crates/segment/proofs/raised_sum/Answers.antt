-- `segment::raised_sum` meets its contract: a turn reads and adds one sample.
use Rattle.std.proofs.Common.{◌≡◌, sym, ◌∙◌, ap, subst, ℕ, ◌-◌, List, ℤ, take, drop, take_all, below_more, arith, w16}
use mir.Facts.{to_z-of_z}
use Rattle.std.proofs.Math.Seq.{slice}
use Rattle.std.proofs.lemmas.List.{drop-take}
use Rattle.segment.specs.Inner.{raised, raised_sum, SumOf}
use Rattle.segment.proofs.Bounds.{fits-sample}
use Rattle.segment.proofs.Sums.{along-next, along-front}
use Rattle.segment.proofs.raised_sum.Goals as goal

pub loop-x-preserved : goal.loop-x-preserved
loop-x-preserved c =
    let f = c.loop-x.invariant in
    let sample = c.raise-arg-1.given in
    record {
      along = along-next raised _ (omega arith) (c.raise-sum.ensures.0 ∙ ap raised (to_z-of_z {w = w16} (record { sfits = sample }))) c.raise-sum.ensures.1 f.along;
      fit = below_more _ _ f.fit (fits-sample _ sample);
    }

pub returns : goal.returns
returns c =
    let xs = take (c.args.to - c.args.from) (drop c.args.from c.args.samples.now) in
    let f = c.loop-x.invariant in
    let e : xs ≡ slice c.args.from c.args.to c.args.samples.now = sym (drop-take c.args.from (c.args.to - c.args.from) c.args.samples.now) ∙ ap (λ (n : ℕ). drop c.args.from (take n c.args.samples.now)) (omega arith) in
    subst (λ (ys : List ℤ). SumOf ys c.loop-x.sum) e (record {
      fit = λ j h. f.fit j (omega arith);
      is = along-front raised f.along ∙ ap raised_sum (take_all c.loop-x.x-index xs (omega arith));
    })
