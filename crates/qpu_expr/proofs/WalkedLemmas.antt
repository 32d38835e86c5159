-- What walks tell of a line.
use Rattle.std.proofs.Common.{◌≡◌, ℕ, List, [], ◌∷◌, refl, ap, ◌∙◌}
use Rattle.std.specs.Prelude.{fold}
use Rattle.qpu_token.specs.declared.token.Token.{Token}
use Rattle.qpu_expr.specs.declared.form.Outline.{Outline}
use Rattle.qpu_expr.specs.declared.scan.Scan.{Scan}
use Rattle.qpu_expr.specs.declared.walk.Walk.TheVariants.{Number, Parts, Names}
use Rattle.qpu_expr.specs.Settings.{Sets, expression, is_whole}
use Rattle.qpu_expr.specs.Operands.{instruction_work}
use Rattle.qpu_expr.specs.Forms.{no_outline, outlined, is_form}
use Rattle.qpu_expr.specs.Scans.{no_scan, scan_on}
use Rattle.qpu_expr.specs.Macros.{names_of, Macros}
use Rattle.qpu_expr.specs.Directives.{names_twice}
use Rattle.qpu_expr.specs.Headings.{Heading, no_heading, headed}
use Rattle.qpu_expr.specs.Walks.{walked, walk_outline, walk_lacks, walk_twice}
use Rattle.qpu_expr.proofs.FormLemmas.{outline_whole, outline_unknown}
use Rattle.qpu_expr.proofs.HeadingLemmas.{heading_names}
use Rattle.qpu_expr.proofs.ScanLemmas.{scan_instruction}

number_fold : (text : List ℕ) (sets : Sets) (tokens : List Token) (o : Outline) → fold (walked text sets) (Number o) tokens ≡ Number (fold (outlined text sets) o tokens)
number_fold text sets [] o = refl
number_fold text sets (token ∷ tokens) o = number_fold text sets tokens (outlined text sets o token)

parts_fold : (text : List ℕ) (sets : Sets) (tokens : List Token) (s : Scan) → fold (walked text sets) (Parts s) tokens ≡ Parts (fold (scan_on text sets) s tokens)
parts_fold text sets [] s = refl
parts_fold text sets (token ∷ tokens) s = parts_fold text sets tokens (scan_on text sets s token)

pub number_whole : (text : List ℕ) (sets : Sets) (tokens : List Token) → is_form (walk_outline (fold (walked text sets) (Number no_outline) tokens)).form ≡ is_whole (expression text sets tokens).outcome
number_whole text sets tokens = ap (λ w. is_form (walk_outline w).form) (number_fold text sets tokens no_outline) ∙ outline_whole text sets tokens

pub number_unknown : (text : List ℕ) (sets : Sets) (tokens : List Token) → (walk_outline (fold (walked text sets) (Number no_outline) tokens)).unknown ≡ (expression text sets tokens).unknown
number_unknown text sets tokens = ap (λ w. (walk_outline w).unknown) (number_fold text sets tokens no_outline) ∙ outline_unknown text sets tokens

pub parts_lack : (text : List ℕ) (sets : Sets) (tokens : List Token) → walk_lacks text sets (fold (walked text sets) (Parts no_scan) tokens) ≡ (instruction_work text sets tokens).unknown
parts_lack text sets tokens = ap (walk_lacks text sets) (parts_fold text sets tokens no_scan) ∙ scan_instruction text sets tokens

names_fold : (text : List ℕ) (sets : Sets) (tokens : List Token) (h : Heading) → fold (walked text sets) (Names h) tokens ≡ Names (fold (headed text) h tokens)
names_fold text sets [] h = refl
names_fold text sets (token ∷ tokens) h = names_fold text sets tokens (headed text h token)

pub names_repeat : (text : List ℕ) (sets : Sets) (macros : Macros) (tokens : List Token) → walk_twice text macros (fold (walked text sets) (Names no_heading) tokens) ≡ names_twice text macros (names_of text tokens).names
names_repeat text sets macros tokens = ap (walk_twice text macros) (names_fold text sets tokens no_heading) ∙ heading_names text macros tokens
