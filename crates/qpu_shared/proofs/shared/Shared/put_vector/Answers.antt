use Rattle.std.proofs.Common.{refl}
use Rattle.qpu_shared.proofs.shared.Shared.put_vector.Goals as goal

pub returns : goal.returns
returns c = rw (c.put_vector.ensures, c.of-setup.ensures, ← c.self.view_is) refl
