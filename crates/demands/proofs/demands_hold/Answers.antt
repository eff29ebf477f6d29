-- The demands are the theorem of proofs/Demands, and what is claimed beside them that of proofs/Further.
use Rattle.demands.proofs.Demands.{demands}
use Rattle.demands.proofs.Further.{further}
use Rattle.demands.proofs.demands_hold.Goals as goal

pub returns : goal.returns
returns c = record { asked = demands; further = further }
