-- The tables as a state.
use Rattle.packets.specs.View.{view as packet_view}
use Rattle.tasks.specs.View.{view as task_view}
use Rattle.tables.specs.declared.store.Tables.{Tables}
use Rattle.tables.specs.State.{State, joined}

abbrev pub view : Tables → State
view t = joined (task_view t.tasks) (packet_view t.packets)
