-- What calls of macros and instructions do by themselves. This project's own.
use Rattle.std.specs.Prelude.{ℕ, ◌==◌, Bool, List, [], ◌∷◌, ◌++◌, length, drop, Option, Some, None, if◌then◌else◌}
use Rattle.std.specs.Option.{option_or}
use Rattle.qpu_token.specs.declared.token.Token.{Token}
use Rattle.qpu_expr.specs.declared.state.Change.TheVariants as change
use Rattle.qpu_expr.specs.declared.deed.Act.TheVariants as act
use Rattle.qpu_expr.specs.declared.deed.Deed.{Deed}
use Rattle.qpu_expr.specs.Settings.{Sets}
use Rattle.qpu_expr.specs.Operands.{Worked, instruction_work}
use Rattle.qpu_expr.specs.MacroTokens.{MacroTokens}
use Rattle.qpu_expr.specs.Macros.{called, arguments_of, argument_fault, body_replaced}
use Rattle.qpu_expr.specs.StageParts.{Stage}
use Rattle.qpu_expr.specs.Findings.{no_findings, place_in, place_when}

-- a call

unfoldable pub call_deed : List ℕ → Bool → Token → List Token → MacroTokens → Deed
call_deed text deepest end line m = record {
  findings = record no_findings {
    deep = place_when deepest (place_in end line);
    shape = option_or (argument_fault text end (drop 1 line)) (if length (arguments_of text (drop 1 line)) == length m.parameters then None else Some (place_in end line));
  };
  change = change.Nothing;
  act = act.Calls (body_replaced text m.parameters (arguments_of text (drop 1 line)) m.body);
}

-- an instruction

abbrev pub worked_deed : Token → Worked → Deed
worked_deed end w = record {
  findings = record no_findings { unknown = w.unknown; zero = w.zero };
  change = change.Leaves (w.tokens ++ end ∷ []);
  act = act.Nothing;
}

unfoldable pub instruction_deed : List ℕ → Sets → Token → List Token → Deed
instruction_deed text sets end line = worked_deed end (instruction_work text sets line)

-- a line whose directive is none or whose label isn't due: its tokens are left, and its parts are judged

abbrev pub judged_deed : Token → List Token → Worked → Deed
judged_deed end left w = record {
  findings = record no_findings { unknown = w.unknown; zero = w.zero };
  change = change.Leaves (left ++ end ∷ []);
  act = act.Nothing;
}

unfoldable pub other_deed : List ℕ → Sets → Token → List Token → List Token → Deed
other_deed text sets end left line = judged_deed end left (instruction_work text sets line)

unfoldable pub text_deed : List ℕ → Stage → Bool → Token → List Token → Deed
text_deed text s deepest end line = by_macro (called text s.macros line)
  where
    by_macro : Option MacroTokens → Deed
    by_macro (Some m) = call_deed text deepest end line m
    by_macro None = instruction_deed text s.sets end line
