-- The line of a load immediate is read.
use Rattle.std.proofs.Common.{◌≡◌, ℕ, Bool, List, [], refl}
use Rattle.std.specs.Prelude.{Option, Some, Ok}
use Rattle.qpu_token.specs.declared.token.Token.{Token}
use Rattle.qpu_word.specs.declared.name.Place.{Place}
use Rattle.qpu_line.specs.declared.load.Load.{Load}
use Rattle.qpu_line.specs.declared.load.LoadKind.{LoadKind}
use Rattle.qpu_line.specs.declared.load.Write.{Write}
use Rattle.qpu_line.specs.declared.name.Name.TheVariants as name
use Rattle.qpu_asm.specs.declared.placed.Placed.{Placed}
use Rattle.qpu_asm.specs.declared.piece.Core.TheVariants as core
use Rattle.qpu_asm.specs.declared.piece.Suffix.{Suffix}
use Rattle.qpu_asm.specs.declared.piece.Piece.{Piece}
use Rattle.qpu_asm.specs.declared.part.Suffixes.{Suffixes}
use Rattle.qpu_asm.specs.declared.part.Part.TheVariants as part
use Rattle.qpu_asm.specs.declared.mark.What.TheVariants as what
use Rattle.qpu_asm.specs.declared.mark.Mark.{Mark}
use Rattle.qpu_asm.specs.reader.Pieces.{suffix_at, comma_at, target_core, value_core}
use Rattle.qpu_asm.specs.reader.Parts.{suffixes_at, load_part, also_part, part_by}
use Rattle.qpu_asm.specs.reader.Marks.{mark, place_mark, any_number}

pub load_step : (kind : LoadKind) (end : Token) (xs ys zs ws : List Placed) (s : Suffixes) (to value : Piece)
    → suffixes_at xs ≡ Ok (s, ys) → target_core end ys ≡ Ok (to, zs) → comma_at end zs ≡ Ok ws → value_core end ws ≡ Ok (value, [])
    → load_part kind end xs ≡ Ok (part.Load (record { kind = kind; suffixes = s; to = to; value = value }))
unfolding load_part
load_step kind end xs ys zs ws s to value e f g h = rw (e, f, g, h) refl

-- the second target

pub also_step : (end : Token) (xs ys : List Placed) (s : Option Suffix) (to : Piece) → suffix_at xs ≡ Ok (s, ys) → target_core end ys ≡ Ok (to, [])
    → also_part end xs ≡ Ok (part.Also (record { suffix = s; to = to }))
unfolding also_part
also_step end xs ys s to e f = rw (e, f) refl

pub also_part_by : (token end : Token) (xs : List Placed) → part_by name.Also token end xs ≡ also_part end xs
unfolding part_by
also_part_by token end xs = refl

pub load_part_by : (kind : LoadKind) (token end : Token) (xs : List Placed) → part_by (name.Load kind) token end xs ≡ load_part kind end xs
unfolding part_by
load_part_by kind token end xs = refl

-- what it means

pub same_load : (l : Load) (kind : LoadKind) (sets : Bool) (add mul : Option Write) (immediate : ℕ) → kind ≡ l.kind → sets ≡ l.sets → add ≡ l.add → mul ≡ l.mul → immediate ≡ l.immediate
    → record { kind = kind; sets = sets; add = add; mul = mul; immediate = immediate } ≡ l
same_load l kind sets add mul immediate e f g h i = rw (e, f, g, h, i) refl

-- no fault

pub value_marks : (p : Piece) (n : ℕ) (ms : List Mark) → p.core ≡ core.Number n → any_number p ms ≡ ms
value_marks p n ms e = rw e refl

pub place_marked : (o : Option Place) (to : Place) (t : Token) (ms : List Mark) → o ≡ Some to → place_mark o t ms ≡ mark (what.Writes to) t ms
place_marked o to t ms e = rw e refl
