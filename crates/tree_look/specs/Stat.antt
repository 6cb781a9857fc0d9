-- What a stat that is refused or answered gives.
use Rattle.std.specs.Prelude.{Result, Ok, Err}
use Rattle.order.specs.Answer.{Done}
use Rattle.order.specs.declared.Refusal.{Refusal}
use Rattle.tree_promises.specs.Calls.{Stat, stat_gives}
use Rattle.tree_look.specs.declared.MetaStat.{MetaStat}

-- Done with the four numbers, or a refusal, which counts nothing
abbrev pub stat_given : Result MetaStat Refusal → Stat
stat_given (Ok m) = stat_gives Done m.dir_total m.dir_free m.file_total m.file_free
stat_given (Err why) = stat_gives (Err why) 0 0 0 0
