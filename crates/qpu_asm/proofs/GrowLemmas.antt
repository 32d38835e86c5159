-- The marks of a part stand behind those before it, and are the same whatever stands before.
use Rattle.std.proofs.Common.{◌≡◌, ℕ, Bool, true, false, List, [], ◌∷◌, ◌++◌, fold, Option, Some, None, refl, ap, sym, ◌∙◌, append_assoc}
use Rattle.std.specs.Prelude.{◌&&◌, not, nat_lt, nat_le, is_none, if◌then◌else◌}
use Rattle.qpu_token.specs.declared.token.Token.{Token}
use Rattle.qpu_word.specs.declared.name.Place.{Place}
use Rattle.qpu_line.specs.declared.operand.Operand.{Operand}
use Rattle.qpu_line.specs.declared.operand.Operand.TheVariants as operand
use Rattle.qpu_line.specs.declared.name.Name.{Name}
use Rattle.qpu_line.specs.declared.name.Name.TheVariants as name
use Rattle.qpu_line.specs.declared.name.Register.{Register}
use Rattle.qpu_line.specs.declared.name.Register.TheVariants as register
use Rattle.qpu_asm.specs.declared.piece.Core.{Core}
use Rattle.qpu_asm.specs.declared.piece.Core.TheVariants as core
use Rattle.qpu_asm.specs.declared.piece.Suffix.{Suffix}
use Rattle.qpu_asm.specs.declared.piece.Piece.{Piece}
use Rattle.qpu_asm.specs.declared.part.Suffixes.{Suffixes}
use Rattle.qpu_asm.specs.declared.part.UnitPart.{UnitPart}
use Rattle.qpu_asm.specs.declared.part.LoadPart.{LoadPart}
use Rattle.qpu_asm.specs.declared.part.AlsoPart.{AlsoPart}
use Rattle.qpu_asm.specs.declared.part.BranchPart.{BranchPart}
use Rattle.qpu_asm.specs.declared.part.Part.{Part}
use Rattle.qpu_asm.specs.declared.part.Part.TheVariants as part
use Rattle.qpu_asm.specs.declared.mark.What.{What}
use Rattle.qpu_asm.specs.declared.mark.What.TheVariants as what
use Rattle.qpu_asm.specs.declared.mark.Mark.{Mark}
use Rattle.qpu_asm.specs.Roles.{source_of}
use Rattle.qpu_asm.specs.reader.Marks.{mark, mark_if, flags_mark, first_suffix, has_condition, second_suffix, suffix_marks, condition_marks, branch_marks, no_suffix, target_place, place_mark, pack_marks, target_marks, somewhere, fixed, unpack_mark, unpack_marks, source_marks, number_marks, nowhere_at, operand_marks, unit_marks, any_number, number_between, load_marks, also_marks, jump_marks, jumping_marks, is_row_name, is_r5, rotation_marks, source_in, other_a, other_b, part_marks}
use Rattle.qpu_asm.specs.Roles.{is_row, if_link}
use Rattle.qpu_asm.specs.Roles.{code_of, is_condition, is_set_flags, is_branch_condition, is_pack, unpack_name}
use Rattle.qpu_asm.proofs.MarkLemmas.{Has, has_left, has_right}

abbrev pub Marking : Type 0
Marking = List Mark → List Mark

abbrev pub Grows : Marking → Type 0
Grows f = (ms : List Mark) → f ms ≡ ms ++ f []

pub grown_old : (f : Marking) → Grows f → (w : What) (ms : List Mark) → Has w ms → Has w (f ms)
grown_old f grows w ms has = rw (grows ms) (has_left w ms (f []) has)

pub grown_new : (f : Marking) → Grows f → (w : What) (ms : List Mark) → Has w (f []) → Has w (f ms)
grown_new f grows w ms has = rw (grows ms) (has_right w ms (f []) has)

append_none : (ms : List Mark) → ms ≡ ms ++ []
append_none [] = refl
append_none (m ∷ ms) = ap (λ xs. m ∷ xs) (append_none ms)

pub grows_same : Grows (λ ms. ms)
grows_same ms = append_none ms

pub grows_mark : (w : What) (token : Token) → Grows (mark w token)
grows_mark w token ms = refl

pub grows_then : (f g : Marking) → Grows f → Grows g → Grows (λ ms. g (f ms))
grows_then f g one other ms =
    other (f ms) ∙ ap (λ xs. xs ++ g []) (one ms) ∙ append_assoc ms (f []) (g []) ∙ ap (λ xs. ms ++ xs) (sym (other (f [])))

pub grows_if : (b : Bool) (f g : Marking) → Grows f → Grows g → Grows (λ ms. if b then f ms else g ms)
grows_if true f g one other = one
grows_if false f g one other = other

pub grows_mark_if : (b : Bool) (w : What) (token : Token) → Grows (mark_if b w token)
grows_mark_if b w token = grows_if b (mark w token) (λ ms. ms) (grows_mark w token) grows_same

-- suffixes

grows_first : (mul : Bool) (s : Option Suffix) → Grows (first_suffix mul s)
grows_first mul None = grows_same
grows_first mul (Some s) =
    grows_if (is_set_flags s.name) (flags_mark mul s.dot) (mark_if (not (is_condition s.name)) what.Wrong s.dot)
    (grows_mark_if mul what.MulSets s.dot) (grows_mark_if (not (is_condition s.name)) what.Wrong s.dot)

grows_second : (mul : Bool) (first s : Option Suffix) → Grows (second_suffix mul first s)
grows_second mul first None = grows_same
grows_second mul first (Some s) =
    grows_if (has_condition first && is_set_flags s.name) (flags_mark mul s.dot) (mark what.Wrong s.dot)
    (grows_mark_if mul what.MulSets s.dot) (grows_mark what.Wrong s.dot)

pub grows_suffixes : (mul : Bool) (s : Suffixes) → Grows (suffix_marks mul s)
unfolding suffix_marks
grows_suffixes mul s = grows_then (first_suffix mul s.first) (second_suffix mul s.first s.second) (grows_first mul s.first) (grows_second mul s.first s.second)

pub grows_condition : (s : Option Suffix) → Grows (condition_marks s)
grows_condition None = grows_same
grows_condition (Some s) = grows_mark_if (not (is_condition s.name)) what.Wrong s.dot

pub grows_branch_condition : (s : Option Suffix) → Grows (branch_marks s)
grows_branch_condition None = grows_same
grows_branch_condition (Some s) = grows_mark_if (not (is_branch_condition s.name)) what.Wrong s.dot

grows_no : (s : Option Suffix) → Grows (no_suffix s)
grows_no None = grows_same
grows_no (Some s) = grows_mark what.Wrong s.dot

-- targets

pub grows_place : (p : Option Place) (token : Token) → Grows (place_mark p token)
grows_place None token = grows_mark what.Wrong token
grows_place (Some p) token = grows_mark (what.Writes p) token

pub grows_pack : (to : Option Place) (s : Option Suffix) → Grows (pack_marks to s)
grows_pack to None = grows_same
grows_pack to (Some s) = grows_mark_if (not (is_row to && is_pack s.name)) what.Wrong s.dot

pub grows_target : (p : Piece) → Grows (target_marks p)
unfolding target_marks
grows_target p = grows_then (place_mark (target_place p.core) p.token) (pack_marks (target_place p.core) p.suffix) (grows_place (target_place p.core) p.token) (grows_pack (target_place p.core) p.suffix)

-- operands

grows_unpack_mark : (row : ℕ) (dot : Token) (mode : Option ℕ) → Grows (unpack_mark row dot mode)
grows_unpack_mark row dot None = grows_mark what.Wrong dot
grows_unpack_mark row dot (Some mode) = grows_mark (what.Unpacks row mode) dot

grows_unpack : (row : ℕ) (p : Piece) (s : Option Suffix) → Grows (unpack_marks row p s)
grows_unpack row p None = grows_mark (what.Unpacks row 0) p.token
grows_unpack row p (Some s) =
    grows_if (nat_lt row 32) (unpack_mark row s.dot (unpack_name s.name)) (mark what.Wrong s.dot) (grows_unpack_mark row s.dot (unpack_name s.name)) (grows_mark what.Wrong s.dot)

grows_source : (mul : Bool) (p : Piece) (o : Option Operand) → Grows (source_marks mul p o)
grows_source mul p None = grows_mark what.Wrong p.token
grows_source mul p (Some (operand.Accumulator n)) =
    grows_then (mark_if (mul && nat_lt 3 n) what.Fixed p.token) (no_suffix p.suffix) (grows_mark_if (mul && nat_lt 3 n) what.Fixed p.token) (grows_no p.suffix)
grows_source mul p (Some (operand.FileA n unpack)) =
    grows_then (λ ms. fixed mul p.token (mark (what.ReadsA n) p.token ms)) (unpack_marks n p p.suffix)
    (grows_then (mark (what.ReadsA n) p.token) (fixed mul p.token) (grows_mark (what.ReadsA n) p.token) (grows_mark_if mul what.Fixed p.token)) (grows_unpack n p p.suffix)
grows_source mul p (Some (operand.FileB n)) =
    grows_then (λ ms. fixed mul p.token (mark (what.ReadsB n) p.token ms)) (no_suffix p.suffix)
    (grows_then (mark (what.ReadsB n) p.token) (fixed mul p.token) (grows_mark (what.ReadsB n) p.token) (grows_mark_if mul what.Fixed p.token)) (grows_no p.suffix)
grows_source mul p (Some (operand.Small code)) = grows_mark what.Wrong p.token

grows_number : (p : Piece) (n : ℕ) → Grows (number_marks p n)
grows_number p n =
    grows_then (λ ms. mark_if (is_none (code_of n)) what.Far p.token (mark (what.Number n) p.token ms)) (no_suffix p.suffix)
    (grows_then (mark (what.Number n) p.token) (mark_if (is_none (code_of n)) what.Far p.token) (grows_mark (what.Number n) p.token) (grows_mark_if (is_none (code_of n)) what.Far p.token))
    (grows_no p.suffix)

-- a piece by its fields
abbrev pub piece : Core → Token → Option Suffix → Piece
piece c token s = record { core = c; token = token; suffix = s }

grows_operand_of : (mul : Bool) (c : Core) (token : Token) (s : Option Suffix) → Grows (operand_marks mul (piece c token s))
unfolding operand_marks
grows_operand_of mul (core.Name n) token s = grows_source mul (piece (core.Name n) token s) (source_of n)
grows_operand_of mul (core.Number n) token s = grows_number (piece (core.Number n) token s) n
grows_operand_of mul core.Unknown token s = grows_mark what.Wrong token
grows_operand_of mul core.Nowhere token s = grows_mark what.Wrong (nowhere_at token s)
grows_operand_of mul (core.Label at) token s = grows_mark what.Wrong token

pub grows_operand : (mul : Bool) (p : Piece) → Grows (operand_marks mul p)
grows_operand mul p = grows_operand_of mul p.core p.token p.suffix

-- parts

pub grows_unit : (mul : Bool) (u : UnitPart) → Grows (unit_marks mul u)
unfolding unit_marks
grows_unit mul u =
    let f = mark_if (not mul) what.Adds u.token in
    let g : Marking = λ ms. suffix_marks mul u.suffixes (f ms) in
    let h : Marking = λ ms. target_marks u.to (g ms) in
    let k : Marking = λ ms. operand_marks mul u.a (h ms) in
    grows_then k (operand_marks mul u.b)
    (grows_then h (operand_marks mul u.a)
    (grows_then g (target_marks u.to) (grows_then f (suffix_marks mul u.suffixes) (grows_mark_if (not mul) what.Adds u.token) (grows_suffixes mul u.suffixes)) (grows_target u.to))
    (grows_operand mul u.a))
    (grows_operand mul u.b)

grows_any_of : (c : Core) (token : Token) (s : Option Suffix) → Grows (any_number (piece c token s))
grows_any_of (core.Number n) token s = grows_same
grows_any_of (core.Name n) token s = grows_mark what.Wrong token
grows_any_of core.Unknown token s = grows_mark what.Wrong token
grows_any_of core.Nowhere token s = grows_mark what.Wrong token
grows_any_of (core.Label at) token s = grows_mark what.Wrong token

pub grows_any : (p : Piece) → Grows (any_number p)
grows_any p = grows_any_of p.core p.token p.suffix

grows_between_of : (low high : ℕ) (c : Core) (token : Token) (s : Option Suffix) → Grows (number_between low high (piece c token s))
grows_between_of low high (core.Number n) token s = grows_mark_if (not (nat_le low n && nat_le n high)) what.Far token
grows_between_of low high (core.Name n) token s = grows_mark what.Wrong token
grows_between_of low high core.Unknown token s = grows_mark what.Wrong token
grows_between_of low high core.Nowhere token s = grows_mark what.Wrong token
grows_between_of low high (core.Label at) token s = grows_mark what.Wrong token

grows_between : (low high : ℕ) (p : Piece) → Grows (number_between low high p)
grows_between low high p = grows_between_of low high p.core p.token p.suffix

pub grows_load : (l : LoadPart) → Grows (load_marks l)
unfolding load_marks
grows_load l =
    grows_then (λ ms. place_mark (target_place l.to.core) l.to.token (suffix_marks false l.suffixes ms)) (any_number l.value)
    (grows_then (suffix_marks false l.suffixes) (place_mark (target_place l.to.core) l.to.token) (grows_suffixes false l.suffixes) (grows_place (target_place l.to.core) l.to.token))
    (grows_any_of l.value.core l.value.token l.value.suffix)

pub grows_also : (a : AlsoPart) → Grows (also_marks a)
unfolding also_marks
grows_also a = grows_then (condition_marks a.suffix) (place_mark (somewhere a.to.core) a.to.token) (grows_condition a.suffix) (grows_place (somewhere a.to.core) a.to.token)

grows_jump_register : (r : Register) (token : Token) (s : Option Suffix) → Grows (jump_marks (piece (core.Name (name.Register r)) token s))
grows_jump_register (register.RowA n) token s = grows_same
grows_jump_register (register.RowB n) token s = grows_mark what.Wrong token
grows_jump_register (register.Accumulator n) token s = grows_mark what.Wrong token
grows_jump_register register.Vpm token s = grows_mark what.Wrong token
grows_jump_register (register.Source p) token s = grows_mark what.Wrong token
grows_jump_register (register.Target p) token s = grows_mark what.Wrong token

grows_jump_name : (n : Name) (token : Token) (s : Option Suffix) → Grows (jump_marks (piece (core.Name n) token s))
grows_jump_name (name.Register r) token s = grows_jump_register r token s
grows_jump_name _ token s = grows_mark what.Wrong token

grows_jump_of : (c : Core) (token : Token) (s : Option Suffix) → Grows (jump_marks (piece c token s))
grows_jump_of (core.Number n) token s = grows_same
grows_jump_of (core.Label (Some at)) token s = grows_same
grows_jump_of (core.Label None) token s = grows_mark what.Missing token
grows_jump_of (core.Name n) token s = grows_jump_name n token s
grows_jump_of core.Unknown token s = grows_mark what.Wrong token
grows_jump_of core.Nowhere token s = grows_mark what.Wrong token

pub grows_jump : (p : Piece) → Grows (jump_marks p)
grows_jump p = grows_jump_of p.core p.token p.suffix

pub grows_jumping : (b : BranchPart) → Grows (jumping_marks b)
unfolding jumping_marks
grows_jumping b =
    grows_then (λ ms. place_mark (if_link (target_place b.to.core)) b.to.token (branch_marks b.suffix ms)) (jump_marks b.target)
    (grows_then (branch_marks b.suffix) (place_mark (if_link (target_place b.to.core)) b.to.token) (grows_branch_condition b.suffix) (grows_place (if_link (target_place b.to.core)) b.to.token))
    (grows_jump_of b.target.core b.target.token b.target.suffix)

pub grows_rotation : (p : Piece) → Grows (rotation_marks p)
grows_rotation p = grows_if (is_r5 p.core) (λ ms. ms) (number_between 1 15 p) grows_same (grows_between 1 15 p)

grows_other_a : (o : Option Operand) (token : Token) → Grows (other_a o token)
grows_other_a (Some (operand.FileA n unpack)) token = grows_mark (if nat_lt n 32 then what.Wrong else what.ReadsA n) token
grows_other_a (Some (operand.FileB n)) token = grows_mark what.Wrong token
grows_other_a (Some (operand.Accumulator n)) token = grows_mark what.Wrong token
grows_other_a (Some (operand.Small code)) token = grows_mark what.Wrong token
grows_other_a None token = grows_mark what.Wrong token

grows_other_b : (o : Option Operand) (token : Token) → Grows (other_b o token)
grows_other_b (Some (operand.FileB n)) token = grows_mark (if nat_lt n 32 then what.Wrong else what.ReadsB n) token
grows_other_b (Some (operand.FileA n unpack)) token = grows_mark what.Wrong token
grows_other_b (Some (operand.Accumulator n)) token = grows_mark what.Wrong token
grows_other_b (Some (operand.Small code)) token = grows_mark what.Wrong token
grows_other_b None token = grows_mark what.Wrong token

pub grows_part : (mul : Bool) (p : Part) → Grows (λ ms. part_marks mul ms p)
unfolding part_marks
grows_part mul part.Nop = grows_same
grows_part mul (part.Unit u) = grows_unit mul u
grows_part mul (part.Load l) = grows_load l
grows_part mul (part.Also a) = grows_also a
grows_part mul (part.Increment p) = grows_between 0 15 p
grows_part mul (part.Decrement p) = grows_between 0 15 p
grows_part mul (part.Branch b) = grows_jumping b
grows_part mul (part.Link p) = grows_place (if_link (somewhere p.core)) p.token
grows_part mul (part.Row p) = grows_mark_if (not (is_row_name p.core)) what.Wrong p.token
grows_part mul (part.Signal s token) = grows_mark what.Signals token
grows_part mul (part.Rotate token by) = grows_then (mark what.Rotates token) (rotation_marks by) (grows_mark what.Rotates token) (grows_rotation by)
grows_part mul (part.ReadA p) = grows_other_a (source_in p.core) p.token
grows_part mul (part.ReadB p) = grows_other_b (source_in p.core) p.token

-- the marks of later parts

abbrev pub later_marks : List Part → List Mark
later_marks parts = fold (part_marks true) [] parts

pub grows_later : (ms : List Mark) (parts : List Part) → fold (part_marks true) ms parts ≡ ms ++ later_marks parts
grows_later ms [] = append_none ms
grows_later ms (p ∷ parts) =
    grows_later (part_marks true ms p) parts ∙ ap (λ xs. xs ++ later_marks parts) (grows_part true p ms) ∙ append_assoc ms (part_marks true [] p) (later_marks parts)
    ∙ ap (λ xs. ms ++ xs) (sym (grows_later (part_marks true [] p) parts))

pub later_first : (w : What) (p : Part) (parts : List Part) → Has w (part_marks true [] p) → Has w (later_marks (p ∷ parts))
later_first w p parts has = rw (grows_later (part_marks true [] p) parts) (has_left w (part_marks true [] p) (later_marks parts) has)

pub later_rest : (w : What) (p : Part) (parts : List Part) → Has w (later_marks parts) → Has w (later_marks (p ∷ parts))
later_rest w p parts has = rw (grows_later (part_marks true [] p) parts) (has_right w (part_marks true [] p) (later_marks parts) has)
