-- How a run ends.
use Rattle.desk_core.specs.declared.end.RunEnd.{RunEnd}
use Rattle.desk_core.specs.declared.end.RunEnd.TheVariants as ends
use Rattle.desk_core.specs.declared.end.Stop.{Stop}
use Rattle.desk_core.specs.declared.end.Stop.TheVariants.{ReadFailed, WriteFailed, Memory, Store}

-- how a run ends that stops
abbrev pub end_of : Stop → RunEnd
end_of ReadFailed = ends.ReadFailed
end_of WriteFailed = ends.WriteFailed
end_of Memory = ends.Memory
end_of Store = ends.Store
