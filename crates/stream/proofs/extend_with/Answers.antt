-- `stream::extend_with` meets its contract: the list is that of all samples.
use mathlib.Core.List.{[], ◌∷◌}
use Prim.Native.Nat.{◌<◌}
use native.Mathlib.Omega.{arith}
use lib.IntN.{pos}
use lib.ListN.{length, replicate, length-replicate, length-append}
use mir.Syntax.{w16}
use mir.Facts.{to_z-of_z}
use Rattle.segment.specs.Segment.{max_samples}
use Rattle.stream.proofs.Copies.{copied}
use Rattle.stream.proofs.extend_with.Goals as goal

pub extend_all-requires : goal.extend_all-requires
extend_all-requires c =
    let a = c.args in
    let zeros = replicate max_samples (pos 0) in
    let room : length a.samples.now < length zeros = omega (arith, length-replicate max_samples (pos 0), length-append a.samples.now (a.sample ∷ []), c.requires.short) in
    rw (c.copy_from_slice.ensures.after, to_z-of_z {w = w16} c.ranges.sample, copied a.samples.now zeros a.sample room) c.requires

pub returns : goal.returns
returns c =
    let a = c.args in
    let zeros = replicate max_samples (pos 0) in
    let room : length a.samples.now < length zeros = omega (arith, length-replicate max_samples (pos 0), length-append a.samples.now (a.sample ∷ []), c.requires.short) in
    rw (c.copy_from_slice.ensures.after, to_z-of_z {w = w16} c.ranges.sample, copied a.samples.now zeros a.sample room) at c.extend_all.ensures
