-- `stream::column_path` meets its contract: the values of the column, then the path of these.
use mathlib.Core.Path.{◌≡◌, ◌∙◌}
use Prim.Native.Nat.{ℕ, ◌≤◌}
use native.Mathlib.Omega.{arith}
use lib.ListN.{length, take, replicate, length-replicate}
use lib.Seq.{length-take-le}
use Rattle.weights.proofs.Steps.{sizes-weigh}
use Rattle.stream.specs.Table.{max_rows}
use Rattle.stream.proofs.Steps.{read-path}
use Rattle.stream.proofs.column_path.Goals as goal

-- So many places are lent for the losses.
places : (count : ℕ) → count ≤ max_rows → length {A = ℕ} (take count (replicate max_rows 0)) ≡ count
places count few = length-take-le count (replicate max_rows 0) (omega (arith, length-replicate {A = ℕ} max_rows 0))

pub write_path-requires : goal.write_path-requires
write_path-requires c =
    let p = c.requires.0 in
    let count = c.args.count in
    let lent = places count p.few in
    let long : length c.read_column.new.losses ≡ count = c.read_column.auto.losses ∙ lent in
    record {
      losses_from = record {
        few = omega (arith, long, p.few);
        fits = rw long c.requires.1;
        first_low = omega (arith, c.read_column.ensures 0 (omega (arith, lent, p.some)), p.first_low);
        weighable = rw long (sizes-weigh count (omega (arith, p.few)));
      };
      within = omega (arith, long);
      few = omega (arith, p.few);
      fits = c.requires.1;
    }

pub returns : goal.returns
returns c =
    let a = c.args in
    let lent = places a.count c.requires.0.few in
    read-path a.table.bytes.now _ a.j (c.read_column.auto.losses ∙ lent) (λ m u. c.read_column.ensures m (omega (arith, lent))) c.write_path.ensures
