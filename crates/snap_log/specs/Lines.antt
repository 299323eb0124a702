-- The settings of a log.
use Rattle.log.specs.declared.level.LevelFilter.{LevelFilter}
use Rattle.snap_log.specs.declared.lines.Lines.{Lines}

-- the level up to which records are logged
abbrev pub lines_level : {R : Type 0} → Lines R → LevelFilter
lines_level lines = lines.level
