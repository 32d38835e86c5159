-- Expressions told without their numbers.
use Rattle.std.proofs.Common.{◌≡◌, ℕ, zero, suc, Bool, true, false, List, [], ◌∷◌, refl, ap, sym, subst, ◌∙◌, add-one, arith}
use Rattle.std.specs.Prelude.{◌&&◌, ◌||◌, nat_lt, fold, map}
use Rattle.std.specs.List.{list_any}
use Rattle.qpu_token.specs.declared.token.Token.{Token}
use Rattle.qpu_expr.specs.declared.place.Place.{Place}
use Rattle.qpu_expr.specs.declared.operator.Operator.TheVariants as sign
use Rattle.qpu_expr.specs.declared.expression.Frame.{Frame}
use Rattle.qpu_expr.specs.declared.expression.Frame.TheVariants as frame
use Rattle.qpu_expr.specs.declared.expression.What.{What}
use Rattle.qpu_expr.specs.declared.expression.What.TheVariants as what
use Rattle.qpu_expr.specs.declared.expression.Item.{Item}
use Rattle.qpu_expr.specs.declared.expression.Phase.{Phase}
use Rattle.qpu_expr.specs.declared.expression.Phase.TheVariants as phase
use Rattle.qpu_expr.specs.declared.form.Form.{Form}
use Rattle.qpu_expr.specs.declared.form.Form.TheVariants.{Due, There, Broken}
use Rattle.qpu_expr.specs.declared.form.Outline.{Outline}
use Rattle.qpu_expr.specs.Operators.{Worth, level, combined, negated, inverted}
use Rattle.qpu_expr.specs.Expressions.{Reading, reading, taken, collapse, read_due, read_behind, closed, passed, stepped, ended, finished}
use Rattle.qpu_expr.specs.Settings.{Sets, item_of, is_unknown, expression, is_whole}
use Rattle.qpu_expr.specs.Forms.{due_read, bracket_closed, behind_read, formed, is_form, no_outline, outlined, lacks}
use Rattle.qpu_expr.proofs.TreeLaw.{goes}

-- how many brackets are open
abbrev opens : List Frame → ℕ
opens [] = 0
opens (frame.Open ∷ stack) = suc (opens stack)
opens (frame.Left v s place ∷ stack) = opens stack
opens (frame.Negate ∷ stack) = opens stack
opens (frame.Invert ∷ stack) = opens stack

abbrev shaped : Phase → List Frame → Form
shaped phase.Due stack = Due (opens stack)
shaped (phase.There v) stack = There (opens stack)
shaped phase.Broken stack = Broken
shaped (phase.Behind place) stack = Broken

abbrev shape : Reading → Form
shape r = shaped r.phase r.stack

-- what is taken from a stack opens no bracket
collapse_opens : (least : ℕ) (stack : List Frame) (v : Worth) → opens (collapse least stack v).0 ≡ opens stack
collapse_opens least [] v = refl
collapse_opens least (frame.Open ∷ stack) v = refl
collapse_opens least (frame.Negate ∷ stack) v = collapse_opens least stack (negated v)
collapse_opens least (frame.Invert ∷ stack) v = collapse_opens least stack (inverted v)
collapse_opens least (frame.Left a s place ∷ stack) v = by_test (nat_lt (level s) least) refl (collapse_opens least stack (combined s place a v))
  where
    by_test : (t : Bool) → nat_lt (level s) least ≡ t → opens (collapse least stack (combined s place a v)).0 ≡ opens stack → opens (collapse least (frame.Left a s place ∷ stack) v).0 ≡ opens stack
    by_test true t later = rw (collapse, taken, t) refl
    by_test false t later = rw (collapse, taken, t) later

-- what is left of a stack by its brackets: nothing, or a bracket on top
abbrev Left : ℕ → List Frame → Type 0
Left zero stack = stack ≡ []
Left (suc n) stack = (rest : List Frame) × (stack ≡ frame.Open ∷ rest) × (opens rest ≡ n)

collapse_left : (stack : List Frame) (v : Worth) → Left (opens stack) (collapse 0 stack v).0
collapse_left [] v = refl
collapse_left (frame.Open ∷ stack) v = (stack, refl, refl)
collapse_left (frame.Negate ∷ stack) v = collapse_left stack (negated v)
collapse_left (frame.Invert ∷ stack) v = collapse_left stack (inverted v)
collapse_left (frame.Left a s place ∷ stack) v =
    subst (λ (p : List Frame × Worth). Left (opens stack) p.0) (sym (goes s place a v stack 0 (omega arith))) (collapse_left stack (combined s place a v))

-- a bracket that closes

close_step : (place : Place) (n : ℕ) (stack : List Frame) (v : Worth) → Left n stack → shape (closed place (stack, v)) ≡ bracket_closed n
close_step place zero stack v left = subst (λ xs. shape (closed place (xs, v)) ≡ Broken) (sym left) refl
close_step place (suc n) stack v left = subst (λ xs. shape (closed place (xs, v)) ≡ There n) (sym left.1) (ap (λ k. There k) left.2)

end_step : (n : ℕ) (stack : List Frame) (v : Worth) → Left n stack → is_whole (ended (stack, v)) ≡ is_form (There n)
end_step zero stack v left = subst (λ xs. is_whole (ended (xs, v)) ≡ true) (sym left) refl
end_step (suc n) stack v left = subst (λ xs. is_whole (ended (xs, v)) ≡ false) (sym left.1) refl

pass_step : (place : Place) (stack : List Frame) (v : Worth) → shape (passed place (stack, v)) ≡ Broken
pass_step place [] v = refl
pass_step place (f ∷ stack) v = refl

-- one item more

due_step : (w : What) (stack : List Frame) → shape (read_due w stack) ≡ due_read (opens stack) w
due_step (what.Value v) stack = refl
due_step (what.Binary sign.Minus) stack = refl
due_step (what.Binary sign.Times) stack = refl
due_step (what.Binary sign.Over) stack = refl
due_step (what.Binary sign.Rest) stack = refl
due_step (what.Binary sign.Plus) stack = refl
due_step (what.Binary sign.Left) stack = refl
due_step (what.Binary sign.Right) stack = refl
due_step (what.Binary sign.And) stack = refl
due_step (what.Binary sign.Xor) stack = refl
due_step (what.Binary sign.Or) stack = refl
due_step what.Invert stack = refl
due_step what.Open stack = ap (λ n. Due n) (sym (add-one (opens stack)))
due_step what.Close stack = refl
due_step what.Other stack = refl

behind_step : (w : What) (place : Place) (stack : List Frame) (v : Worth) → shape (read_behind w place stack v) ≡ behind_read (opens stack) w
behind_step (what.Value n) place stack v = pass_step place (collapse 0 stack v).0 (collapse 0 stack v).1
behind_step (what.Binary s) place stack v = ap (λ n. Due n) (collapse_opens (level s) stack v)
behind_step what.Invert place stack v = pass_step place (collapse 0 stack v).0 (collapse 0 stack v).1
behind_step what.Open place stack v = pass_step place (collapse 0 stack v).0 (collapse 0 stack v).1
behind_step what.Close place stack v = close_step place (opens stack) (collapse 0 stack v).0 (collapse 0 stack v).1 (collapse_left stack v)
behind_step what.Other place stack v = pass_step place (collapse 0 stack v).0 (collapse 0 stack v).1

phase_step : (p : Phase) (stack : List Frame) (item : Item) → shape (stepped (reading stack p) item) ≡ formed (shaped p stack) item.what
phase_step phase.Due stack item = due_step item.what stack
phase_step (phase.There v) stack item = behind_step item.what item.place stack v
phase_step phase.Broken stack item = refl
phase_step (phase.Behind place) stack item = refl

whole_step : (p : Phase) (stack : List Frame) → is_whole (finished (reading stack p)) ≡ is_form (shaped p stack)
whole_step phase.Due stack = refl
whole_step (phase.There v) stack = end_step (opens stack) (collapse 0 stack v).0 (collapse 0 stack v).1 (collapse_left stack v)
whole_step phase.Broken stack = refl
whole_step (phase.Behind place) stack = refl

-- all tokens

form_fold : (text : List ℕ) (sets : Sets) (tokens : List Token) (o : Outline) (r : Reading) → o.form ≡ shape r → (fold (outlined text sets) o tokens).form ≡ shape (fold stepped r (map (item_of text sets) tokens))
form_fold text sets [] o r same = same
form_fold text sets (token ∷ tokens) o r same =
    form_fold text sets tokens (outlined text sets o token) (stepped r (item_of text sets token))
    (ap (λ f. formed f (item_of text sets token).what) same ∙ sym (phase_step r.phase r.stack (item_of text sets token)))

any_more : (a b c : Bool) → ((a || b) || c) ≡ (a || (b || c))
any_more true b c = refl
any_more false b c = refl

any_none : (a : Bool) → (a || false) ≡ a
any_none true = refl
any_none false = refl

unknown_fold : (text : List ℕ) (sets : Sets) (tokens : List Token) (o : Outline) → (fold (outlined text sets) o tokens).unknown ≡ (o.unknown || list_any (is_unknown text sets) tokens)
unknown_fold text sets [] o = sym (any_none o.unknown)
unknown_fold text sets (token ∷ tokens) o =
    unknown_fold text sets tokens (outlined text sets o token) ∙ any_more o.unknown (is_unknown text sets token) (list_any (is_unknown text sets) tokens)

pub outline_whole : (text : List ℕ) (sets : Sets) (tokens : List Token) → is_form (fold (outlined text sets) no_outline tokens).form ≡ is_whole (expression text sets tokens).outcome
unfolding expression
outline_whole text sets tokens =
    let r : Reading = fold stepped (reading [] phase.Due) (map (item_of text sets) tokens) in
    ap is_form (form_fold text sets tokens no_outline (reading [] phase.Due) refl) ∙ sym (whole_step r.phase r.stack)

pub outline_unknown : (text : List ℕ) (sets : Sets) (tokens : List Token) → (fold (outlined text sets) no_outline tokens).unknown ≡ (expression text sets tokens).unknown
unfolding expression
outline_unknown text sets tokens = unknown_fold text sets tokens no_outline

pub outline_lacks : (text : List ℕ) (sets : Sets) (tokens : List Token) → lacks (fold (outlined text sets) no_outline tokens) ≡ (is_whole (expression text sets tokens).outcome && (expression text sets tokens).unknown)
outline_lacks text sets tokens =
    ap (λ w. w && (fold (outlined text sets) no_outline tokens).unknown) (outline_whole text sets tokens)
    ∙ ap (λ u. is_whole (expression text sets tokens).outcome && u) (outline_unknown text sets tokens)
