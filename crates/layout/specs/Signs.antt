-- Two's complement at 16 bits: the number that an item stands for spells that item again, which is the law of signed items.
use mathlib.Core.Path.{◌≡◌, refl}
use mathlib.Core.Bool.{Bool, true, false, cond}
use Prim.Native.Nat.{ℕ, ◌-◌, ◌<◌}
use native.Mathlib.Omega.{arith}
use lib.Dec.{ltb}
use lib.IntN.{pos, negsuc}
use Rattle.layout.specs.Items.{signed_of, unsigned_of}

pub unsigned_signed : (v : ℕ) → v < 65536 → unsigned_of (signed_of v) ≡ v
unfolding signed_of unsigned_of
unsigned_signed v l = by-test (ltb v 32768)
  where
    by-test : (b : Bool) → unsigned_of (cond b (pos v) (negsuc (65535 - v))) ≡ v
    by-test true = refl
    by-test false = omega arith
