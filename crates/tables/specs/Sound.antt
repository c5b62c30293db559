-- What is so of a kernel's tables at all times.
use Rattle.packets.specs.declared.table.PacketTable.{PacketTable}
use Rattle.packets.specs.View.{view as packet_view}
use Rattle.tasks.specs.declared.table.TaskTable.{TaskTable}
use Rattle.tasks.specs.View.{view as task_view}
use Rattle.tables.specs.State.{joined}
use Rattle.tables.specs.Running.{running, Greatest}
use Rattle.tables.specs.Kept.{Kept}

-- Their state has what every kernel keeps, and the task that runs is the runnable one of greatest priority, or 0 where no task is
-- runnable.
pub record AreSound (tasks : TaskTable) (packets : PacketTable) : Type 0 where
  pub kept : Kept (joined (task_view tasks) (packet_view packets))
  pub greatest : Greatest (joined (task_view tasks) (packet_view packets)) (running (joined (task_view tasks) (packet_view packets)))

-- Any two such tables.
abbrev pub TablesAreSound : Type 0
TablesAreSound = (tasks : TaskTable) (packets : PacketTable) → AreSound tasks packets
