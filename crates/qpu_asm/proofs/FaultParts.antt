-- Each part agrees with the form of its mnemonic.
use Rattle.std.proofs.Common.{◌≡◌, ℕ, Bool, true, false, List, [], ◌∷◌, ◌++◌, append_assoc, Option, Some, None, Result, Ok, refl, ap, sym, subst, ◌∙◌, arith}
use Rattle.std.proofs.lemmas.List.{append-nil}
use Rattle.std.specs.Prelude.{◌&&◌, not, nat_lt, is_none, if◌then◌else◌}
use Rattle.qpu_token.specs.declared.token.Token.{Token}
use Rattle.qpu_line.specs.declared.operand.Operand.{Operand}
use Rattle.qpu_line.specs.declared.operand.Operand.TheVariants as operand
use Rattle.qpu_line.specs.declared.load.LoadKind.{LoadKind}
use Rattle.qpu_line.specs.declared.units.Signal.TheVariants.{End, Load0, Load1}
use Rattle.qpu_line.specs.declared.name.Name.{Name}
use Rattle.qpu_line.specs.declared.name.Name.TheVariants as name
use Rattle.qpu_asm.specs.declared.placed.Placed.{Placed}
use Rattle.qpu_asm.specs.declared.piece.Core.{Core}
use Rattle.qpu_asm.specs.declared.piece.Core.TheVariants as core
use Rattle.qpu_asm.specs.declared.piece.Suffix.{Suffix}
use Rattle.qpu_asm.specs.declared.piece.Piece.{Piece}
use Rattle.qpu_asm.specs.declared.part.Suffixes.{Suffixes}
use Rattle.qpu_asm.specs.declared.part.UnitPart.{UnitPart}
use Rattle.qpu_asm.specs.declared.part.LoadPart.{LoadPart}
use Rattle.qpu_asm.specs.declared.part.AlsoPart.{AlsoPart}
use Rattle.qpu_asm.specs.declared.part.BranchPart.{BranchPart}
use Rattle.qpu_asm.specs.declared.part.Part.{Part}
use Rattle.qpu_asm.specs.declared.part.Part.TheVariants as part
use Rattle.qpu_asm.specs.declared.mark.What.{What}
use Rattle.qpu_asm.specs.declared.mark.What.TheVariants as what
use Rattle.qpu_asm.specs.declared.mark.Mark.{Mark}
use Rattle.qpu_asm.specs.Roles.{source_of, takes_one, is_mnemonic, if_link, unpack_name, code_of}
use Rattle.qpu_asm.specs.Forms.{Aim, operands, unit_form, branch_form, form}
use Rattle.qpu_asm.specs.Forms.Suffixed.{setting, settled, met, taken, packed}
use Rattle.qpu_asm.specs.Forms.Aim.{anywhere, somewhere, linked, linked_somewhere, row, other_a, other_b}
use Rattle.qpu_asm.specs.Forms.Use.{any, between, turn}
use Rattle.qpu_asm.specs.Forms.Slot.{suffix_slot, comma_slot, target_slot, number_slot, colon_slot, way_slot}
use Rattle.qpu_asm.specs.Stands.{stands_if, mnemonic_means}
use Rattle.qpu_asm.specs.reader.Reading.{go_on, ended}
use Rattle.qpu_asm.specs.reader.Pieces.{bare, target_core, value_core, operand_at, comma_at}
use Rattle.qpu_asm.specs.reader.Parts.{one_operand, two_operands, unit_part, load_part, also_part, branch_part, last_value, last_name, part_by}
use Rattle.qpu_asm.specs.reader.Marks.{mark, mark_if, suffix_marks, condition_marks, branch_marks, no_suffix, target_place, place_mark, target_marks, somewhere as somewhere_of, unpack_mark, unpack_marks, source_marks, operand_marks, any_number, number_between, unit_marks, load_marks, also_marks, jump_marks, jumping_marks, is_row_name, rotation_marks, source_in, other_a as other_a_marks, other_b as other_b_marks, part_marks}
use Rattle.qpu_asm.proofs.GrowLemmas.{grows_suffixes, grows_target, grows_operand, grows_any, grows_place, grows_jump, grows_rotation}
use Rattle.qpu_asm.proofs.FaultMarks.{Alike, alike_same, alike_append, alike_then, alike_twice, Near, AllNear, near_calm, Calm}
use Rattle.qpu_asm.proofs.FaultChain.{marked, Agrees, Chain, chain_ended, go_assoc, suffix_chain, comma_chain, target_chain, core_of, value_chain}
use Rattle.qpu_asm.proofs.FaultPieces.{suffixes_chain, condition_told, branch_told, anywhere_agrees, somewhere_agrees, linked_agrees, linked_somewhere_agrees, row_agrees, other_a_agrees, other_b_agrees, packed_chain, bounded_agrees, any_agrees, turn_agrees, operand_chain, jump_chain}

-- an operand's marks don't clash with one another

near_if : (o : Operand) (b : Bool) (w : What) (t : Token) (ms : List Mark) → Near o w → AllNear o ms → AllNear o (mark_if b w t ms)
near_if o true w t ms near all = more ms all
  where
    more : (ms : List Mark) → AllNear o ms → AllNear o (ms ++ record { what = w; token = t } ∷ [])
    more [] all = (near, tt)
    more (m ∷ ms) all = (all.0, more ms all.1)
near_if o false w t ms near all = all

near_mark : (o : Operand) (w : What) (t : Token) (ms : List Mark) → Near o w → AllNear o ms → AllNear o (mark w t ms)
near_mark o w t ms near all = near_if o true w t ms near all

near_suffix : (o : Operand) (s : Option Suffix) (ms : List Mark) → AllNear o ms → AllNear o (no_suffix s ms)
near_suffix o None ms all = all
near_suffix o (Some s) ms all = near_mark o what.Wrong s.dot ms tt all

abbrev IsNear : List Mark → Type 0
IsNear ms = (o : Operand) × AllNear o ms

unpack_near : (n : ℕ) (dot : Token) (u : Option ℕ) (ms : List Mark) → ((v : ℕ) → AllNear (operand.FileA n v) ms) → IsNear (unpack_mark n dot u ms)
unpack_near n dot None ms all = (operand.FileA n 0, near_mark (operand.FileA n 0) what.Wrong dot ms tt (all 0))
unpack_near n dot (Some v) ms all = (operand.FileA n v, near_mark (operand.FileA n v) (what.Unpacks n v) dot ms refl (all v))

unpack_if : (n : ℕ) (s : Suffix) (b : Bool) (ms : List Mark) → ((v : ℕ) → AllNear (operand.FileA n v) ms) → IsNear (if b then unpack_mark n s.dot (unpack_name s.name) ms else mark what.Wrong s.dot ms)
unpack_if n s true ms all = unpack_near n s.dot (unpack_name s.name) ms all
unpack_if n s false ms all = (operand.FileA n 0, near_mark (operand.FileA n 0) what.Wrong s.dot ms tt (all 0))

unpacks_near : (n : ℕ) (p : Piece) (s : Option Suffix) (ms : List Mark) → ((v : ℕ) → AllNear (operand.FileA n v) ms) → IsNear (unpack_marks n p s ms)
unpacks_near n p None ms all = (operand.FileA n 0, near_mark (operand.FileA n 0) (what.Unpacks n 0) p.token ms refl (all 0))
unpacks_near n p (Some s) ms all = unpack_if n s (nat_lt n 32) ms all

source_near : (mul : Bool) (p : Piece) (o : Option Operand) → IsNear (source_marks mul p o [])
source_near mul p None = (operand.FileB 0, (tt, tt))
source_near mul p (Some (operand.Accumulator n)) =
    (operand.FileB 0, near_suffix (operand.FileB 0) p.suffix _ (near_if (operand.FileB 0) (mul && nat_lt 3 n) what.Fixed p.token [] tt tt))
source_near mul p (Some (operand.FileA n unpack)) = unpacks_near n p p.suffix _ (λ v. near_if (operand.FileA n v) mul what.Fixed p.token (mark (what.ReadsA n) p.token []) tt (refl, tt))
source_near mul p (Some (operand.FileB n)) = (operand.FileB n, near_suffix (operand.FileB n) p.suffix _ (near_if (operand.FileB n) mul what.Fixed p.token (mark (what.ReadsB n) p.token []) tt (refl, tt)))
source_near mul p (Some (operand.Small code)) = (operand.FileB 0, (tt, tt))

operand_near_of : (mul : Bool) (c : Core) (t : Token) (s : Option Suffix) → IsNear (operand_marks mul (record { core = c; token = t; suffix = s }) [])
unfolding operand_marks
operand_near_of mul (core.Name n) t s = source_near mul (record { core = core.Name n; token = t; suffix = s }) (source_of n)
operand_near_of mul (core.Number n) t s =
    (operand.Small n, near_suffix (operand.Small n) s _ (near_if (operand.Small n) (is_none (code_of n)) what.Far t (mark (what.Number n) t []) tt (refl, tt)))
operand_near_of mul core.Unknown t s = (operand.FileB 0, (tt, tt))
operand_near_of mul core.Nowhere t s = (operand.FileB 0, (tt, tt))
operand_near_of mul (core.Label at) t s = (operand.FileB 0, (tt, tt))

operand_calm : (mul : Bool) (p : Piece) → Calm (operand_marks mul p [])
operand_calm mul p = let near = operand_near_of mul p.core p.token p.suffix in near_calm near.0 (operand_marks mul p []) near.1

-- the marks of a part, those of its mnemonic first
abbrev pub PartTold : Bool → Token → Name → Part → List Mark → Type 0
PartTold mul token n p l = Alike (part_marks mul [] p) (marked token (mnemonic_means mul n) ++ l)

-- the units' parts

nested : (a b c d e : List Mark) → a ++ b ++ c ++ d ++ e ≡ a ++ (b ++ (c ++ (d ++ e)))
nested a b c d e = append_assoc (a ++ b ++ c) d e ∙ append_assoc (a ++ b) c (d ++ e) ∙ append_assoc a b (c ++ (d ++ e))

unit_split : (mul : Bool) (u : UnitPart)
    → unit_marks mul u [] ≡ mark_if (not mul) what.Adds u.token [] ++ (suffix_marks mul u.suffixes [] ++ (target_marks u.to [] ++ (operand_marks mul u.a [] ++ operand_marks mul u.b [])))
unfolding unit_marks
unit_split mul u =
    let own : List Mark = mark_if (not mul) what.Adds u.token [] in
    let s : List Mark = suffix_marks mul u.suffixes [] in
    let t : List Mark = target_marks u.to [] in
    let a : List Mark = operand_marks mul u.a [] in
    let one : suffix_marks mul u.suffixes own ≡ own ++ s = grows_suffixes mul u.suffixes own in
    let two : target_marks u.to (suffix_marks mul u.suffixes own) ≡ own ++ s ++ t = grows_target u.to (suffix_marks mul u.suffixes own) ∙ ap (λ z. z ++ t) one in
    let three : operand_marks mul u.a (target_marks u.to (suffix_marks mul u.suffixes own)) ≡ own ++ s ++ t ++ a = grows_operand mul u.a (target_marks u.to (suffix_marks mul u.suffixes own)) ∙ ap (λ z. z ++ a) two in
    grows_operand mul u.b (operand_marks mul u.a (target_marks u.to (suffix_marks mul u.suffixes own))) ∙ ap (λ z. z ++ operand_marks mul u.b []) three ∙ nested own s t a (operand_marks mul u.b [])

adds_told : (mul : Bool) (t : Token) → mark_if (not mul) what.Adds t [] ≡ marked t (stands_if (not mul) what.Adds)
adds_told true t = refl
adds_told false t = refl

abbrev UnitTold : Bool → Token → Part → List Mark → Type 0
UnitTold mul token p l = Alike (part_marks mul [] p) (marked token (stands_if (not mul) what.Adds) ++ l)

two_told : (mul : Bool) (u : UnitPart) → UnitTold mul u.token (part.Unit u) (suffix_marks mul u.suffixes [] ++ (target_marks u.to [] ++ (operand_marks mul u.a [] ++ (operand_marks mul u.b [] ++ []))))
unfolding part_marks
two_told mul u =
    alike_same _ _ (unit_split mul u ∙ rw (adds_told mul u.token, append-nil (operand_marks mul u.b [])) refl)

one_told : (mul : Bool) (n : Name) (token : Token) (s : Suffixes) (to a : Piece)
    → UnitTold mul token (part.Unit (record { op = n; token = token; suffixes = s; to = to; a = a; b = a })) (suffix_marks mul s [] ++ (target_marks to [] ++ (operand_marks mul a [] ++ [])))
unfolding part_marks
one_told mul n token s to a =
    let d : List Mark = operand_marks mul a [] in
    let own : List Mark = marked token (stands_if (not mul) what.Adds) in
    let u : UnitPart = record { op = n; token = token; suffixes = s; to = to; a = a; b = a } in
    let split : unit_marks mul u [] ≡ own ++ (suffix_marks mul s [] ++ (target_marks to [] ++ (d ++ d))) = unit_split mul u ∙ rw (adds_told mul token) refl in
    let once : Alike (d ++ d) (d ++ []) = subst (Alike (d ++ d)) (sym (append-nil d)) (alike_twice d (operand_calm mul a)) in
    alike_then _ _ _ (alike_same _ _ split)
    (alike_append own own _ _ (alike_same own own refl)
    (alike_append (suffix_marks mul s []) (suffix_marks mul s []) _ _ (alike_same _ _ refl) (alike_append (target_marks to []) (target_marks to []) (d ++ d) (d ++ []) (alike_same _ _ refl) once)))

ended_then : {A B : Type 0} (mul : Bool) (end : Token) (mid rest : List Placed) (Q : B → List Mark → Type 0) (a : A) (f : A → B) → Q (f a) [] → Chain mul [] end mid rest Q (go_on (ended a rest) (λ z. Ok (f z)))
ended_then mul end mid [] Q a f q = chain_ended mul end mid [] Q (f a) q
ended_then mul end mid (x ∷ rest) Q a f q = chain_ended mul end mid (x ∷ rest) Q (f a) q

abbrev unit_of : Name → Token → Suffixes → Piece → Piece × Piece → Part
unit_of n token s to both = part.Unit (record { op = n; token = token; suffixes = s; to = to; a = both.0; b = both.1 })

operands_chain : (mul one : Bool) (n : Name) (token end : Token) (s : Suffixes) (to : Piece) (mid rest : List Placed)
    → Chain mul (operands one) end mid rest (λ p l. UnitTold mul token p (suffix_marks mul s [] ++ (target_marks to [] ++ l)))
    (go_on (if one then one_operand end rest else two_operands end rest) (λ both. Ok (unit_of n token s to both)))
unfolding one_operand two_operands
operands_chain mul true n token end s to mid rest =
    let next : Piece × Piece → Result Part Token = λ both. Ok (unit_of n token s to both) in
    let Q : Part → List Mark → Type 0 = λ p l. UnitTold mul token p (suffix_marks mul s [] ++ (target_marks to [] ++ l)) in
    subst (Chain mul (operands true) end mid rest Q) (go_assoc (operand_at end rest) (λ a. ended (a.0, a.0) a.1) next)
    (operand_chain mul [] end mid rest Q _ (λ a last left. ended_then mul end last left (λ p l. Q p (operand_marks mul a [] ++ l)) (a, a) (unit_of n token s to) (one_told mul n token s to a)))
operands_chain mul false n token end s to mid rest =
    let next : Piece × Piece → Result Part Token = λ both. Ok (unit_of n token s to both) in
    let Q : Part → List Mark → Type 0 = λ p l. UnitTold mul token p (suffix_marks mul s [] ++ (target_marks to [] ++ l)) in
    subst (Chain mul (operands false) end mid rest Q) (go_assoc (operand_at end rest) _ next)
    (operand_chain mul (comma_slot ∷ operands true) end mid rest Q _
    (λ a last left. subst (Chain mul (comma_slot ∷ operands true) end last left (λ p l. Q p (operand_marks mul a [] ++ l))) (go_assoc (comma_at end left) _ next)
    (comma_chain mul (operands true) end last left (λ p l. Q p (operand_marks mul a [] ++ l)) _
    (λ gap behind. subst (Chain mul (operands true) end gap behind (λ p l. Q p (operand_marks mul a [] ++ l))) (go_assoc (operand_at end behind) _ next)
    (operand_chain mul [] end gap behind (λ p l. Q p (operand_marks mul a [] ++ l)) _
    (λ b final over. ended_then mul end final over (λ p l. Q p (operand_marks mul a [] ++ (operand_marks mul b [] ++ l))) (a, b) (unit_of n token s to)
    (two_told mul (record { op = n; token = token; suffixes = s; to = to; a = a; b = b }))))))))

unit_chain : (mul : Bool) (n : Name) (token end : Token) (xs : List Placed) → Chain mul (unit_form n) end [] xs (UnitTold mul token) (unit_part n token end xs)
unfolding unit_part
unit_chain mul n token end xs =
    suffixes_chain true mul (target_slot anywhere ∷ suffix_slot packed ∷ comma_slot ∷ operands (takes_one n)) end [] xs (UnitTold mul token) _
    (λ s mid rest. packed_chain mul (comma_slot ∷ operands (takes_one n)) end mid rest (λ p l. UnitTold mul token p (suffix_marks mul s [] ++ l)) _
    (λ to last left. comma_chain mul (operands (takes_one n)) end last left (λ p l. UnitTold mul token p (suffix_marks mul s [] ++ (target_marks to [] ++ l))) _
    (λ gap behind. operands_chain mul (takes_one n) n token end s to gap behind)))

-- loads

load_split : (l : LoadPart) → load_marks l [] ≡ suffix_marks false l.suffixes [] ++ (place_mark (target_place l.to.core) l.to.token [] ++ (any_number l.value [] ++ []))
unfolding load_marks
load_split l =
    let s : List Mark = suffix_marks false l.suffixes [] in
    let t : List Mark = place_mark (target_place l.to.core) l.to.token [] in
    grows_any l.value (place_mark (target_place l.to.core) l.to.token s) ∙ ap (λ z. z ++ any_number l.value []) (grows_place (target_place l.to.core) l.to.token s)
    ∙ append_assoc s t (any_number l.value []) ∙ rw (append-nil (any_number l.value [])) refl

abbrev LoadTold : Bool → Part → List Mark → Type 0
LoadTold mul p l = Alike (part_marks mul [] p) l

load_chain : (mul : Bool) (kind : LoadKind) (end : Token) (xs : List Placed)
    → Chain mul (suffix_slot (setting false) ∷ suffix_slot (settled false) ∷ target_slot anywhere ∷ comma_slot ∷ number_slot any ∷ []) end [] xs (LoadTold mul) (load_part kind end xs)
unfolding load_part part_marks
load_chain mul kind end xs =
    suffixes_chain false mul (target_slot anywhere ∷ comma_slot ∷ number_slot any ∷ []) end [] xs (LoadTold mul) _
    (λ s mid rest. target_chain mul anywhere (comma_slot ∷ number_slot any ∷ []) end mid rest (λ p l. LoadTold mul p (suffix_marks false s [] ++ l)) (λ c t. place_mark (target_place c) t []) _ anywhere_agrees
    (λ y c t last left of first. comma_chain mul (number_slot any ∷ []) end last left (λ p l. LoadTold mul p (suffix_marks false s [] ++ (place_mark (target_place c) t [] ++ l))) _
    (λ gap behind. value_chain mul any [] end gap behind (λ p l. LoadTold mul p (suffix_marks false s [] ++ (place_mark (target_place c) t [] ++ l))) (λ d v. any_number (bare d v) []) _ any_agrees
    (λ o v final over. chain_ended mul end final over _ (part.Load (record { kind = kind; suffixes = s; to = bare c t; value = bare (core_of o) v }))
    (alike_same _ _ (load_split (record { kind = kind; suffixes = s; to = bare c t; value = bare (core_of o) v })))))))

-- a load's second target

also_split : (a : AlsoPart) → also_marks a [] ≡ condition_marks a.suffix [] ++ (place_mark (somewhere_of a.to.core) a.to.token [] ++ [])
unfolding also_marks
also_split a = grows_place (somewhere_of a.to.core) a.to.token (condition_marks a.suffix []) ∙ rw (append-nil (place_mark (somewhere_of a.to.core) a.to.token [])) refl

also_chain : (mul : Bool) (end : Token) (xs : List Placed) → Chain mul (suffix_slot met ∷ target_slot somewhere ∷ []) end [] xs (LoadTold mul) (also_part end xs)
unfolding also_part part_marks
also_chain mul end xs =
    suffix_chain mul met (target_slot somewhere ∷ []) end [] xs (LoadTold mul) (λ a. condition_marks a []) _ refl condition_told
    (λ a mid rest named there. target_chain mul somewhere [] end mid rest (λ p l. LoadTold mul p (condition_marks a [] ++ l)) (λ c t. place_mark (somewhere_of c) t []) _ somewhere_agrees
    (λ y c t last left of first. chain_ended mul end last left _ (part.Also (record { suffix = a; to = bare c t })) (alike_same _ _ (also_split (record { suffix = a; to = bare c t })))))

-- branches

branch_split : (b : BranchPart) → jumping_marks b [] ≡ branch_marks b.suffix [] ++ (place_mark (if_link (target_place b.to.core)) b.to.token [] ++ (jump_marks b.target [] ++ []))
unfolding jumping_marks
branch_split b =
    let s : List Mark = branch_marks b.suffix [] in
    let t : List Mark = place_mark (if_link (target_place b.to.core)) b.to.token [] in
    grows_jump b.target (place_mark (if_link (target_place b.to.core)) b.to.token s) ∙ ap (λ z. z ++ jump_marks b.target []) (grows_place (if_link (target_place b.to.core)) b.to.token s)
    ∙ append_assoc s t (jump_marks b.target []) ∙ rw (append-nil (jump_marks b.target [])) refl

branch_chain : (mul relative : Bool) (end : Token) (xs : List Placed) → Chain mul branch_form end [] xs (LoadTold mul) (branch_part relative end xs)
unfolding branch_part part_marks
branch_chain mul relative end xs =
    suffix_chain mul taken (target_slot linked ∷ comma_slot ∷ colon_slot ∷ way_slot ∷ []) end [] xs (LoadTold mul) (λ a. branch_marks a []) _ refl branch_told
    (λ a mid rest named there. target_chain mul linked (comma_slot ∷ colon_slot ∷ way_slot ∷ []) end mid rest (λ p l. LoadTold mul p (branch_marks a [] ++ l)) (λ c t. place_mark (if_link (target_place c)) t []) _ linked_agrees
    (λ y c t last left of first. comma_chain mul (colon_slot ∷ way_slot ∷ []) end last left (λ p l. LoadTold mul p (branch_marks a [] ++ (place_mark (if_link (target_place c)) t [] ++ l))) _
    (λ gap behind. jump_chain mul [] end gap behind (λ p l. LoadTold mul p (branch_marks a [] ++ (place_mark (if_link (target_place c)) t [] ++ l))) _
    (λ w final over. chain_ended mul end final over _ (part.Branch (record { relative = relative; suffix = a; to = bare c t; target = w }))
    (alike_same _ _ (branch_split (record { relative = relative; suffix = a; to = bare c t; target = w })))))))

-- a number or a name alone

abbrev AloneTold : Bool → List Mark → Part → List Mark → Type 0
AloneTold mul own p l = Alike (part_marks mul [] p) (own ++ l)

bounded_chain : (mul : Bool) (end : Token) (xs : List Placed) (f : Piece → Part) → ((p : Piece) → part_marks mul [] (f p) ≡ number_between 0 15 p [])
    → Chain mul (number_slot (between 0 15) ∷ []) end [] xs (AloneTold mul []) (go_on (last_value end xs) (λ p. Ok (f p)))
unfolding last_value
bounded_chain mul end xs f is =
    subst (Chain mul (number_slot (between 0 15) ∷ []) end [] xs (AloneTold mul [])) (go_assoc (value_core end xs) _ (λ p. Ok (f p)))
    (value_chain mul (between 0 15) [] end [] xs (AloneTold mul []) (λ d v. number_between 0 15 (bare d v) []) _ bounded_agrees
    (λ o v mid rest. ended_then mul end mid rest _ (bare (core_of o) v) f (alike_same _ _ (is (bare (core_of o) v) ∙ sym (append-nil (number_between 0 15 (bare (core_of o) v) []))))))

turn_told : (mul : Bool) (token : Token) (p : Piece) → part_marks mul [] (part.Rotate token p) ≡ marked token (what.Rotates ∷ []) ++ (rotation_marks p [] ++ [])
unfolding part_marks
turn_told mul token p = grows_rotation p (mark what.Rotates token []) ∙ rw (append-nil (rotation_marks p [])) refl

turn_chain : (mul : Bool) (token end : Token) (xs : List Placed)
    → Chain mul (number_slot turn ∷ []) end [] xs (AloneTold mul (marked token (what.Rotates ∷ []))) (go_on (last_value end xs) (λ p. Ok (part.Rotate token p)))
unfolding last_value
turn_chain mul token end xs =
    let own : List Mark = marked token (what.Rotates ∷ []) in
    subst (Chain mul (number_slot turn ∷ []) end [] xs (AloneTold mul own)) (go_assoc (value_core end xs) _ (λ p. Ok (part.Rotate token p)))
    (value_chain mul turn [] end [] xs (AloneTold mul own) (λ d v. rotation_marks (bare d v) []) _ turn_agrees
    (λ o v mid rest. ended_then mul end mid rest _ (bare (core_of o) v) (part.Rotate token) (alike_same _ _ (turn_told mul token (bare (core_of o) v)))))

names_chain : (mul : Bool) (a : Aim) (g : Core → Token → List Mark) (end : Token) (xs : List Placed) (f : Piece → Part) → Agrees a g → ((c : Core) (t : Token) → part_marks mul [] (f (bare c t)) ≡ g c t)
    → Chain mul (target_slot a ∷ []) end [] xs (AloneTold mul []) (go_on (last_name end xs) (λ p. Ok (f p)))
unfolding last_name
names_chain mul a g end xs f agree is =
    subst (Chain mul (target_slot a ∷ []) end [] xs (AloneTold mul [])) (go_assoc (target_core end xs) _ (λ p. Ok (f p)))
    (target_chain mul a [] end [] xs (AloneTold mul []) g _ agree
    (λ y c t mid rest of first. ended_then mul end mid rest _ (bare c t) f (alike_same _ _ (is c t ∙ sym (append-nil (g c t))))))

-- each mnemonic

pub part_chain : (mul : Bool) (n : Name) (token end : Token) (xs : List Placed) → is_mnemonic n ≡ true → Chain mul (form n) end [] xs (PartTold mul token n) (part_by n token end xs)
unfolding part_by part_marks
part_chain mul (name.Add op) token end xs is = unit_chain mul (name.Add op) token end xs
part_chain mul (name.Mul op) token end xs is = unit_chain mul (name.Mul op) token end xs
part_chain mul name.Mov token end xs is = unit_chain mul name.Mov token end xs
part_chain mul name.Nop token end xs is = chain_ended mul end [] xs _ part.Nop (alike_same [] [] refl)
part_chain mul (name.Load kind) token end xs is = load_chain mul kind end xs
part_chain mul name.Also token end xs is = also_chain mul end xs
part_chain mul name.Increment token end xs is = bounded_chain mul end xs part.Increment (λ p. refl)
part_chain mul name.Decrement token end xs is = bounded_chain mul end xs part.Decrement (λ p. refl)
part_chain mul name.Branch token end xs is = branch_chain mul false end xs
part_chain mul name.RelativeBranch token end xs is = branch_chain mul true end xs
part_chain mul name.Link token end xs is = names_chain mul linked_somewhere (λ c t. place_mark (if_link (somewhere_of c)) t []) end xs part.Link linked_somewhere_agrees (λ c t. refl)
part_chain mul name.Row token end xs is = names_chain mul row (λ c t. mark_if (not (is_row_name c)) what.Wrong t []) end xs part.Row row_agrees (λ c t. refl)
part_chain mul name.End token end xs is = chain_ended mul end [] xs _ (part.Signal End token) (alike_same (marked token (what.Signals ∷ [])) (marked token (what.Signals ∷ [])) refl)
part_chain mul name.Load0 token end xs is = chain_ended mul end [] xs _ (part.Signal Load0 token) (alike_same (marked token (what.Signals ∷ [])) (marked token (what.Signals ∷ [])) refl)
part_chain mul name.Load1 token end xs is = chain_ended mul end [] xs _ (part.Signal Load1 token) (alike_same (marked token (what.Signals ∷ [])) (marked token (what.Signals ∷ [])) refl)
part_chain mul name.Rotate token end xs is = turn_chain mul token end xs
part_chain mul name.ReadA token end xs is = names_chain mul other_a (λ c t. other_a_marks (source_in c) t []) end xs part.ReadA other_a_agrees (λ c t. refl)
part_chain mul name.ReadB token end xs is = names_chain mul other_b (λ c t. other_b_marks (source_in c) t []) end xs part.ReadB other_b_agrees (λ c t. refl)
part_chain mul _ token end xs is = absurd (grind (arith, is))
