-- The parts that symbols spell are read.
use Rattle.std.proofs.Common.{◌≡◌, ℕ, Bool, true, false, List, [], ◌∷◌, ◌++◌, Option, Some, None, Ok, refl, subst, ap, ◌∙◌, append_assoc, arith}
use Rattle.std.specs.Prelude.{if◌then◌else◌}
use Rattle.qpu_token.specs.declared.token.Token.{Token}
use Rattle.qpu_word.specs.declared.name.Place.{Place}
use Rattle.qpu_line.specs.declared.operand.Operand.{Operand}
use Rattle.qpu_line.specs.declared.part.Part.{Part as UnitDoes}
use Rattle.qpu_line.specs.declared.name.Name.{Name}
use Rattle.qpu_line.specs.declared.name.Name.TheVariants as name
use Rattle.qpu_line.specs.declared.symbol.Symbol.{Symbol}
use Rattle.qpu_line.specs.declared.symbol.Symbol.TheVariants as symbol
use Rattle.qpu_asm.specs.declared.placed.Placed.{Placed}
use Rattle.qpu_asm.specs.declared.piece.Core.{Core}
use Rattle.qpu_asm.specs.declared.piece.Core.TheVariants as core
use Rattle.qpu_asm.specs.declared.piece.Suffix.{Suffix}
use Rattle.qpu_asm.specs.declared.piece.Piece.{Piece}
use Rattle.qpu_asm.specs.declared.part.Suffixes.{Suffixes}
use Rattle.qpu_asm.specs.declared.part.UnitPart.{UnitPart}
use Rattle.qpu_asm.specs.declared.part.Part.{Part}
use Rattle.qpu_asm.specs.declared.part.Part.TheVariants as part
use Rattle.qpu_asm.specs.declared.mark.Mark.{Mark}
use Rattle.qpu_asm.specs.Roles.{op_in_add, op_in_mul, takes_one, is_mnemonic}
use Rattle.qpu_asm.specs.reader.Pieces.{bare, comma_at, target_core, value_core, target_at, operand_at}
use Rattle.qpu_asm.specs.reader.Parts.{suffixes_at, one_operand, two_operands, operands_at, unit_part, last_value, last_name, part_by}
use Rattle.qpu_asm.specs.reader.Orders.{due}
use Rattle.qpu_asm.specs.SectionTokens.{SectionTokens}
use Rattle.qpu_asm.specs.reader.Sections.{part_after}
use Rattle.qpu_asm.specs.reader.Marks.{target_place, pack_marks}
use Rattle.qpu_asm.specs.reader.Meanings.{pack_in, condition_at}
use Rattle.qpu_asm.specs.SpelledPieces.{name_alone, SpellsNumber, SpellsTarget, SpellsCondition, SpellsFlags, SpellsPack, SpellsOperand, SpellsOperands}
use Rattle.qpu_asm.specs.SpelledPieces.SpellsNumber.{number}
use Rattle.qpu_asm.specs.SpelledPieces.SpellsTarget.{nowhere, named as target_named}
use Rattle.qpu_asm.specs.SpelledPieces.SpellsOperand.{named as operand_named, unpacked, small}
use Rattle.qpu_asm.specs.SpelledPieces.SpellsOperands.{one, two}
use Rattle.qpu_asm.specs.Spells.{SpellsUnit}
use Rattle.qpu_asm.specs.Spells.SpellsUnit.{unit}
use Rattle.qpu_asm.proofs.ProperParts.{is_op}
use Rattle.qpu_asm.proofs.AgainSpelled.{Spelled, spelled_append}
use Rattle.qpu_asm.proofs.AgainPieces.{Ends, ends_stops, ends_no_dot, target_name, suffix_behind_target, Suffixed, SaysSuffixes}
use Rattle.qpu_asm.proofs.AgainSections.{Plain, plain_append, section_after}
use Rattle.qpu_asm.proofs.ReadPieces.{comma_front, nothing_front, opt, opt_read, opt_stops, suffixes_read, flag_symbols, flags_are, IsCondition, ConditionSaid, condition_said, TargetRead, target_read, number_read, target_calm, PackSaid, pack_said, OperandSays, operand_read}

-- a section by itself: it begins with a mnemonic, and its tokens are read as a part
pub record IsSection (P : Part → Type 0) (ys : List Symbol) : Type 0 where
  pub n : Name
  pub h : List Symbol
  pub is : ys ≡ symbol.Name n ∷ h
  pub plain : Plain h
  pub mnemonic : is_mnemonic n ≡ true
  pub reads : (token end : Token) (rest : List Placed) → Spelled h rest [] → (p : Part) × (part_by n token end rest ≡ Ok p) × P p

pub section_read : (P : Part → Type 0) (ys : List Symbol) (s : IsSection P ys) (earlier : List Part) (t : SectionTokens) → Spelled ys t.tokens [] → due earlier s.n ≡ true
    → (p : Part) × (part_after earlier t.end t.tokens ≡ Ok p) × P p
section_read P ys s earlier t spelled d =
    let Q : List Symbol → Type 0 = λ z. Spelled z t.tokens [] in
    section_after P earlier t.end s.n s.h t.tokens (subst Q s.is spelled) d (λ token rest h. s.reads token t.end rest h)

-- no sign `;` stands in a piece

pub opt_plain : (o : Option Name) → Plain (opt o)
opt_plain None = tt
opt_plain (Some n) = (refl, (refl, tt))

pub flags_plain : (sets : Bool) → Plain (flag_symbols sets)
flags_plain false = tt
flags_plain true = (refl, (refl, tt))

pub target_plain : (t : List Symbol) (to : Place) → SpellsTarget t to → Plain t
target_plain t to nowhere = (refl, tt)
target_plain t to (target_named e) = (refl, tt)

pub number_plain : (x : List Symbol) (v : ℕ) → SpellsNumber x v → Plain x
number_plain x v number = (refl, tt)

operand_plain : (x : List Symbol) (o : Operand) → SpellsOperand x o → Plain x
operand_plain x o (operand_named e) = (refl, tt)
operand_plain x o (unpacked e low is) = (refl, (refl, (refl, tt)))
operand_plain x o (small low is) = number_plain x _ is

operands_plain : (single : Bool) (x : List Symbol) (a b : Operand) → SpellsOperands single x a b → Plain x
operands_plain single x a b (one s) = operand_plain x a s
operands_plain single x a b (two {x = y} {y = z} s t) = plain_append y (symbol.Comma ∷ z) (operand_plain y a s) (refl, operand_plain z b t)

-- a comma

pub comma_read : (end : Token) (x : List Symbol) (xs rest : List Placed) → Spelled (symbol.Comma ∷ x) xs rest → (mid : List Placed) × (comma_at end xs ≡ Ok mid) × Spelled x mid rest
comma_read end x [] rest h = absurd h
comma_read end x (y ∷ mid) rest h = (mid, comma_step end y mid h.0, h.1)
  where
    comma_step : (end : Token) (x : Placed) (rest : List Placed) → x.symbol ≡ symbol.Comma → comma_at end (x ∷ rest) ≡ Ok rest
    comma_step end x rest e = rw e refl

-- operands

one_step : (end : Token) (xs : List Placed) (a : Piece) → operand_at end xs ≡ Ok (a, []) → one_operand end xs ≡ Ok (a, a)
unfolding one_operand
one_step end xs a e = rw e refl

two_step : (end : Token) (xs ys zs : List Placed) (a b : Piece) → operand_at end xs ≡ Ok (a, ys) → comma_at end ys ≡ Ok zs → operand_at end zs ≡ Ok (b, []) → two_operands end xs ≡ Ok (a, b)
unfolding two_operands
two_step end xs ys zs a b e f g = rw (e, f, g) refl

operands_by : (single : Bool) (end : Token) (x : List Symbol) (a b : Operand) (xs : List Placed) → SpellsOperands single x a b → Spelled x xs []
    → (p : Piece) × (q : Piece) × ((if single then one_operand end xs else two_operands end xs) ≡ Ok (p, q)) × OperandSays a p × OperandSays b q
operands_by single end x a b xs (one s) h = let r = operand_read end x a xs [] s h tt in (r.0, r.0, one_step end xs r.0 r.1, r.2, r.2)
operands_by single end x a b xs (two {x = y} {y = z} s t) h =
    let m = spelled_append y (symbol.Comma ∷ z) xs [] h in
    let r = operand_read end y a xs m.0 s m.1 (comma_front z m.0 [] m.2) in
    let c = comma_read end z m.0 [] m.2 in
    let l = operand_read end z b c.0 [] t c.2 tt in
    (r.0, l.0, two_step end xs m.0 c.0 r.0 l.0 r.1 c.1 l.1, r.2, l.2)

-- units

pub record UnitSays (has : Name → Option ℕ) (sets : Bool) (p : UnitDoes) (v : UnitPart) : Type 0 where
  pub named : has v.op ≡ Some p.op
  pub o : Option Name
  pub condition : IsCondition o
  pub suffixes : SaysSuffixes o sets v.suffixes
  pub cond : condition_at p.to v.suffixes.first ≡ p.cond
  pub place : target_place v.to.core ≡ Some p.to
  pub pack : pack_in v.to.suffix ≡ p.pack
  pub packs : (ms : List Mark) → pack_marks (Some p.to) v.to.suffix ms ≡ ms
  pub a : OperandSays p.a v.a
  pub b : OperandSays p.b v.b

abbrev pub IsUnit : (Name → Option ℕ) → Bool → UnitDoes → Part → Type 0
IsUnit has sets p q = (v : UnitPart) × (q ≡ part.Unit v) × UnitSays has sets p v

unit_step : (op : Name) (token end : Token) (xs ys zs ws : List Placed) (s : Suffixes) (to a b : Piece)
    → suffixes_at xs ≡ Ok (s, ys) → target_at end ys ≡ Ok (to, zs) → comma_at end zs ≡ Ok ws → operands_at op end ws ≡ Ok (a, b)
    → unit_part op token end xs ≡ Ok (part.Unit (record { op = op; token = token; suffixes = s; to = to; a = a; b = b }))
unfolding unit_part
unit_step op token end xs ys zs ws s to a b e f g h = rw (e, f, g, h) refl

op_part : (n : Name) (token end : Token) (xs : List Placed) → is_op n ≡ true → part_by n token end xs ≡ unit_part n token end xs
unfolding part_by
op_part (name.Add op) token end xs e = refl
op_part (name.Mul op) token end xs e = refl
op_part name.Mov token end xs e = refl
op_part _ token end xs e = absurd (grind (arith, e))

op_mnemonic : (n : Name) → is_op n ≡ true → is_mnemonic n ≡ true
op_mnemonic (name.Add op) e = refl
op_mnemonic (name.Mul op) e = refl
op_mnemonic name.Mov e = refl
op_mnemonic _ e = absurd (grind (arith, e))

target_with : (end : Token) (t : List Symbol) (to : Place) (o : Option Name) (xs mid : List Placed) → SpellsTarget t to → Spelled (t ++ opt o) xs mid → Ends mid
    → (c : Core) × (token : Token) × (s : Option Suffix) × (target_at end xs ≡ Ok (record { core = c; token = token; suffix = s }, mid)) × (target_place c ≡ Some to) × Suffixed o s
target_with end t to o xs mid spells h ends =
    let m = spelled_append t (opt o) xs mid h in
    let r : TargetRead end to xs m.0 = target_read end t to xs m.0 spells m.1 (opt_stops o m.0 mid m.2 ends) in
    let s = opt_read o m.0 mid m.2 (ends_no_dot mid ends) in
    (r.c, r.token, s.0, suffix_behind_target end xs m.0 mid r.c r.token s.0 r.read s.1, r.place, s.2)

moved : (a b c d e : List Symbol) → a ++ (b ++ (c ++ (d ++ e))) ≡ (a ++ b) ++ ((c ++ d) ++ e)
moved a b c d e = simp append_assoc

renamed : (c c' f f' t k k' z : List Symbol) → c ≡ c' → f ≡ f' → k ≡ k' → c ++ (f ++ (t ++ (k ++ z))) ≡ c' ++ (f' ++ (t ++ (k' ++ z)))
renamed c c' f f' t k k' z e g h = rw (e, g, h) refl

unit_reads_by : (has : Name → Option ℕ) (n : Name) (c f t k x : List Symbol) (op cond pack : ℕ) (sets : Bool) (to : Place) (a b : Operand) → is_op n ≡ true → has n ≡ Some op
    → SpellsCondition c to cond → SpellsFlags f sets → SpellsTarget t to → SpellsPack k to pack → SpellsOperands (takes_one n) x a b
    → IsSection (IsUnit has sets (record { op = op; cond = cond; to = to; pack = pack; a = a; b = b })) (symbol.Name n ∷ c ++ (f ++ (t ++ (k ++ symbol.Comma ∷ x))))
unit_reads_by has n c f t k x op cond pack sets to a b is named condition flags target packs operands =
    let cs : ConditionSaid c to cond = condition_said c to cond condition in
    let ps : PackSaid k to pack = pack_said k to pack packs in
    let fe : f ≡ flag_symbols sets = flags_are f sets flags in
    let whole : c ++ (f ++ (t ++ (k ++ symbol.Comma ∷ x))) ≡ opt cs.o ++ (flag_symbols sets ++ (t ++ (opt ps.o ++ symbol.Comma ∷ x))) = renamed c (opt cs.o) f (flag_symbols sets) t k (opt ps.o) (symbol.Comma ∷ x) cs.is fe ps.is in
    record {
      n = n;
      h = opt cs.o ++ (flag_symbols sets ++ (t ++ (opt ps.o ++ symbol.Comma ∷ x)));
      is = ap (λ z. symbol.Name n ∷ z) whole;
      plain = plain_append (opt cs.o) _ (opt_plain cs.o)
          (plain_append (flag_symbols sets) _ (flags_plain sets) (plain_append t _ (target_plain t to target) (plain_append (opt ps.o) (symbol.Comma ∷ x) (opt_plain ps.o) (refl, operands_plain (takes_one n) x a b operands))));
      mnemonic = op_mnemonic n is;
      reads = λ token end rest h.
          (let Q : List Symbol → Type 0 = λ z. Spelled z rest [] in
          let parts = subst Q (moved (opt cs.o) (flag_symbols sets) t (opt ps.o) (symbol.Comma ∷ x)) h in
          let m = spelled_append (opt cs.o ++ flag_symbols sets) ((t ++ opt ps.o) ++ symbol.Comma ∷ x) rest [] parts in
          let w = spelled_append (t ++ opt ps.o) (symbol.Comma ∷ x) m.0 [] m.2 in
          let u = spelled_append t (opt ps.o) m.0 w.0 w.1 in
          let s = suffixes_read cs.o sets rest m.0 m.1 (target_calm t to m.0 u.0 target u.1) in
          let g = target_with end t to ps.o m.0 w.0 target w.1 (comma_front x w.0 [] w.2) in
          let k = comma_read end x w.0 [] w.2 in
          let o = operands_by (takes_one n) end x a b k.0 operands k.2 in
          let goes : Piece = record { core = g.0; token = g.1; suffix = g.2 } in
          let v : UnitPart = record { op = n; token = token; suffixes = s.0; to = goes; a = o.0; b = o.1 } in (
            part.Unit v,
            op_part n token end rest is ∙ unit_step n token end rest m.0 w.0 k.0 s.0 goes o.0 o.1 s.1 g.3 k.1 o.2,
            (
              v,
              refl,
              record {
                named = named;
                o = cs.o;
                condition = cs.named;
                suffixes = s.2;
                cond = cs.gives sets s.0 s.2;
                place = g.4;
                pack = ps.gives g.2 g.5;
                packs = λ ms. ps.marks g.2 ms g.5;
                a = o.3;
                b = o.4;
              },
            ),
          ));
    }

-- and its mnemonic is one of the unit
pub record UnitSection (has : Name → Option ℕ) (sets : Bool) (p : UnitDoes) (ys : List Symbol) : Type 0 where
  pub section : IsSection (IsUnit has sets p) ys
  pub named : has section.n ≡ Some p.op

pub unit_reads : (has : Name → Option ℕ) (ys : List Symbol) (sets : Bool) (p : UnitDoes) → ((n : Name) (op : ℕ) → has n ≡ Some op → is_op n ≡ true) → SpellsUnit has ys sets p → UnitSection has sets p ys
unfolding unit_reads_by
unit_reads has ys sets p ops (unit {n = n} {c = c} {f = f} {t = t} {k = k} {x = x} {op = op} {cond = cond} {pack = pack} {to = to} {a = a} {b = b} named condition flags target packs operands) =
    record { section = unit_reads_by has n c f t k x op cond pack sets to a b (ops n op named) named condition flags target packs operands; named = named }

pub add_ops : (n : Name) (op : ℕ) → op_in_add n ≡ Some op → is_op n ≡ true
add_ops (name.Add a) op e = refl
add_ops name.Mov op e = refl
add_ops _ op e = absurd (grind (arith, e))

pub mul_ops : (n : Name) (op : ℕ) → op_in_mul n ≡ Some op → is_op n ≡ true
mul_ops (name.Add a) op e = refl
mul_ops (name.Mul a) op e = refl
mul_ops name.Mov op e = refl
mul_ops _ op e = absurd (grind (arith, e))

-- parts of one piece

last_value_step : (end : Token) (xs : List Placed) (p : Piece) → value_core end xs ≡ Ok (p, []) → last_value end xs ≡ Ok p
unfolding last_value
last_value_step end xs p e = rw e refl

last_name_step : (end : Token) (xs : List Placed) (p : Piece) → target_core end xs ≡ Ok (p, []) → last_name end xs ≡ Ok p
unfolding last_name
last_name_step end xs p e = rw e refl

pub last_number : (end : Token) (x : List Symbol) (v : ℕ) (xs : List Placed) → SpellsNumber x v → Spelled x xs [] → (t : Token) × (last_value end xs ≡ Ok (bare (core.Number v) t))
last_number end x v xs spells h = let r = number_read end x v xs [] spells h tt in (r.0, last_value_step end xs (bare (core.Number v) r.0) r.1)

pub last_named : (end : Token) (n : Name) (xs : List Placed) → Spelled (name_alone n) xs [] → (t : Token) × (last_name end xs ≡ Ok (bare (core.Name n) t))
last_named end n [] h = absurd h
last_named end n (x ∷ rest) h =
    let stop = ends_stops rest (nothing_front rest h.1) in
    let read = target_name end x rest n h.0 stop ∙ ap (λ (z : List Placed). Ok (bare (core.Name n) x.token, z)) h.1 in
    (x.token, last_name_step end (x ∷ rest) (bare (core.Name n) x.token) read)
