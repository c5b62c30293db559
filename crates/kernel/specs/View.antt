-- The state of a kernel, in whichever phase it is.
use Rattle.tables.specs.State.{State}
use Rattle.tables.specs.View.{view}
use Rattle.kernel.specs.declared.phases.Kernel.{Kernel}

abbrev pub state : {P : Type 0} → Kernel P → State
state k = view k.tables
