-- A line is read as an instruction exactly where it spells it.
use Rattle.std.proofs.Common.{◌≡◌, ◌↔◌, ℕ, List, map, Ok, subst}
use Rattle.std.specs.Prelude.{All}
use Rattle.qpu_token.specs.declared.token.Token.{Token}
use Rattle.qpu_line.specs.declared.instruction.Instruction.{Instruction}
use Rattle.qpu_line.specs.declared.symbol.Symbol.{Symbol}
use Rattle.qpu_line.specs.Named.{HasWord}
use Rattle.qpu_asm.specs.declared.placed.Placed.{Placed}
use Rattle.qpu_asm.specs.declared.line.Line.TheVariants.{Says}
use Rattle.qpu_asm.specs.reader.LinesRead.{read_line}
use Rattle.qpu_asm.specs.Laws.{IsProper, symbols_of}
use Rattle.qpu_asm.specs.Spells.{SpellsParts, joined, label_in, IsSpelled}
use Rattle.qpu_asm.specs.Spells.SpellsParts.{units, load, semaphore, branch}
use Rattle.qpu_asm.specs.Placed.{Labels, placed_token}
use Rattle.qpu_asm.proofs.LineLaw.{all_placed}
use Rattle.qpu_asm.proofs.SpellsLaw.{read_spelled}
use Rattle.qpu_asm.proofs.ReadNames.{AreThere, all_there, parts_there}
use Rattle.qpu_asm.proofs.ReadBoth.{both_read}
use Rattle.qpu_asm.proofs.ReadLoads.{semaphore_read, load_read}
use Rattle.qpu_asm.proofs.ReadBranches.{branch_line_read}

pub parts_read : (at : ℕ) (end : Token) (xs : List Placed) (parts : List (List Symbol)) (i : Instruction) → AreThere (symbols_of xs) → SpellsParts at (label_in xs) parts i → HasWord i → symbols_of xs ≡ joined parts
    → read_line at end xs ≡ Ok (Says i)
parts_read at end xs parts i there (units spells) fits e = both_read at end parts _ xs spells fits.0 fits.1 e
parts_read at end xs parts i there (load spells) fits e = load_read at end parts _ xs spells fits (parts_there parts (subst AreThere e there)) e
parts_read at end xs parts i there (semaphore spells) fits e = semaphore_read at end parts _ xs spells fits e
parts_read at end xs parts i there (branch spells) fits e = branch_line_read at end parts _ xs spells fits (parts_there parts (subst AreThere e there)) e

pub spelled_law : (at : ℕ) (end : Token) (xs : List Placed) (i : Instruction) → All IsProper xs → read_line at end xs ≡ Ok (Says i) ↔ IsSpelled at xs i
spelled_law at end xs i proper = (read_spelled at end xs i proper, λ s. parts_read at end xs s.parts i (all_there xs proper) s.says s.fits s.whole)

pub text_spelled_law : (text : List ℕ) (labels : Labels) (at : ℕ) (end : Token) (tokens : List Token) (i : Instruction)
    → read_line at end (map (placed_token text labels) tokens) ≡ Ok (Says i) ↔ IsSpelled at (map (placed_token text labels) tokens) i
text_spelled_law text labels at end tokens i = spelled_law at end (map (placed_token text labels) tokens) i (all_placed text labels tokens)
