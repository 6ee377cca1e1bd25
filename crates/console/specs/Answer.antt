-- What a line is answered with, and the state that it leaves.
use Rattle.std.specs.Prelude.{Some, None, Ok, Err, Option, Result}
use Rattle.questions.specs.Ask.{first_no}
use Rattle.water.specs.Calls.{level_questions, rain_questions, rained_on}
use Rattle.water.specs.Level.{level}
use Rattle.water.specs.State.{State, litres, totals}
use Rattle.water.specs.declared.refusal.Refusal.{Refusal as WaterRefusal}
use Rattle.console.specs.declared.command.Command.{Command}
use Rattle.console.specs.declared.command.Command.TheVariants.{Rain, Level, Totals}
use Rattle.console.specs.declared.refusal.Refusal.{Refusal}
use Rattle.console.specs.declared.refusal.Refusal.TheVariants.{NotWellFormed, Water}
use Rattle.console.specs.declared.reply.Answer.{Answer}
use Rattle.console.specs.declared.reply.Answer.TheVariants as answer

-- What a call is answered with: its refusal if there is one.
abbrev pub reply_or : Option WaterRefusal → Answer → Result Answer Refusal
reply_or None a = Ok a
reply_or (Some r) a = Err (Water r)

-- The reply to a line: a line that spells no command is not well formed; a call is refused by its first question
-- answered no; accepted rain is done, and the level and the totals are told.
abbrev pub reply_to : Option Command → State → Result Answer Refusal
reply_to None s = Err NotWellFormed
reply_to (Some (Rain a v)) s = reply_or (first_no (rain_questions a v s)) answer.Done
reply_to (Some (Level a)) s = reply_or (first_no (level_questions a s)) (answer.Level (litres (level a.0 s.tree)))
reply_to (Some Totals) s = Ok (answer.Totals (totals s))

-- The state that rain leaves: nothing changes where it is refused.
abbrev pub state_or : Option WaterRefusal → State → State → State
state_or None changed s = changed
state_or (Some r) changed s = s

-- The state after a line: only accepted rain changes it.
abbrev pub after : Option Command → State → State
after None s = s
after (Some (Rain a v)) s = state_or (first_no (rain_questions a v s)) (rained_on a v s) s
after (Some (Level a)) s = s
after (Some Totals) s = s
