-- What a call's answer comes to, apart from the run. Definitions only.
use Rattle.std.specs.Prelude.{Option, None, Result, Ok, Err}
use Rattle.refusals.specs.declared.Refusal.{Refusal}
use Rattle.script_steps.specs.declared.values.Values.{Values}

-- an accepted frame's values, nothing to print, or a refusal
abbrev pub Reply : Type 0
Reply = Result (Option Values) Refusal

-- of what a call answers only a refusal is told
abbrev pub reply_of : {A : Type 0} → Result A Refusal → Reply
reply_of (Ok x) = Ok None
reply_of (Err r) = Err r
