-- The canonical line of an instruction that has a word is read as that instruction, since it spells it.
use Rattle.std.proofs.Common.{◌≡◌, ◌<◌, ℕ, Bool, true, false, List, [], ◌∷◌, ◌++◌, Option, Some, None, refl, sym, ap, ◌∙◌, map, arith}
use Rattle.std.proofs.lemmas.Bool.Decides.{nat_tests}
use Rattle.std.specs.Prelude.{not, nat_lt, IfSome, if◌then◌else◌, Ok}
use Rattle.qpu_token.specs.declared.token.Token.{Token}
use Rattle.qpu_word.specs.declared.name.Place.{Place}
use Rattle.qpu_word.specs.declared.name.Place.TheVariants.{Both as InBoth}
use Rattle.qpu_line.specs.declared.load.Load.{Load}
use Rattle.qpu_line.specs.declared.load.Write.{Write}
use Rattle.qpu_line.specs.declared.branch.Branch.{Branch}
use Rattle.qpu_line.specs.declared.instruction.Instruction.{Instruction}
use Rattle.qpu_line.specs.declared.instruction.Instruction.TheVariants as instruction
use Rattle.qpu_line.specs.declared.name.Name.TheVariants as name
use Rattle.qpu_line.specs.declared.name.Register.TheVariants as register
use Rattle.qpu_line.specs.declared.symbol.Symbol.{Symbol}
use Rattle.qpu_line.specs.declared.symbol.Symbol.TheVariants as symbol
use Rattle.qpu_line.specs.Targets.{target_at_address, address_of}
use Rattle.qpu_line.specs.Loads.{write_target}
use Rattle.qpu_line.specs.Worded.{IsTarget, IsWrite, IsLoad, IsBranch, is_exchanged_branch}
use Rattle.qpu_line.specs.Named.{HasWord}
use Rattle.qpu_line.specs.Lines.{suffix, target_bits, condition_bits, branch_condition_bits, flags_bits, write_bits, is_nowhere as is_dash, line_bits, symbols_of as symbols, line_symbols}
use Rattle.qpu_asm.specs.declared.placed.Placed.{Placed}
use Rattle.qpu_asm.specs.declared.line.Line.TheVariants.{Says}
use Rattle.qpu_asm.specs.SpelledPieces.{is_nowhere, SpellsTarget}
use Rattle.qpu_asm.specs.SpelledPieces.SpellsTarget.{nowhere, named as target_named}
use Rattle.qpu_asm.specs.Spells.{label_in}
use Rattle.qpu_asm.specs.reader.LinesRead.{read_line}
use Rattle.qpu_asm.proofs.ProperParts.{each_append}
use Rattle.qpu_asm.proofs.ReadNames.{is_somewhere, IsThere, AreThere, PartsThere}
use Rattle.qpu_asm.proofs.ReadBoth.{both_read}
use Rattle.qpu_asm.proofs.ReadLoads.{semaphore_read, load_read}
use Rattle.qpu_asm.proofs.ReadBranches.{branch_line_read}
use Rattle.qpu_asm.proofs.SpellsCanonical.{no_case, target_spelled, units_parts, units_whole, units_spelled, load_part, also_parts, load_whole, load_spelled, semaphore_part, semaphore_by, semaphore_whole, branch_part, link_parts_by, row_parts, link_parts, branch_whole, branch_spelled}

-- the names of a canonical line stand for something that is somewhere

both_there : (a b : List Symbol) → AreThere a → AreThere b → AreThere (a ++ b)
both_there a b one other = each_append IsThere a b one other

named_there : (ss : List Symbol) (to : Place) → SpellsTarget ss to → is_nowhere to ≡ false → AreThere ss
named_there _ _ nowhere there = (tt, tt)
named_there _ to (target_named e) there = (rw (e, there) refl, tt)

target_by : (to : Place) (dash : Bool) → is_nowhere to ≡ dash → (dash ≡ true → to ≡ InBoth 39) → AreThere (symbols (target_bits to))
target_by to true e is = rw (is refl) (tt, tt)
target_by to false e is = named_there (symbols (target_bits to)) to (target_spelled to) e

target_there : (to : Place) → (is_nowhere to ≡ true → to ≡ InBoth 39) → AreThere (symbols (target_bits to))
target_there to is = target_by to (is_nowhere to) refl is

at_nowhere : (in_b : Bool) (to : Place) → IsTarget in_b to → is_nowhere to ≡ true → to ≡ InBoth 39
unfolding target_at_address
at_nowhere in_b to is e = let at : address_of to ≡ 39 = grind (arith, nat_tests, e) in sym is ∙ ap (target_at_address in_b) at

suffix_there : (cond : ℕ) → AreThere (symbols (condition_bits cond))
suffix_there cond = by (nat_lt cond 2)
  where
    by : (low : Bool) → AreThere (symbols (if low then [] else suffix (name.Condition cond)))
    by true = tt
    by false = (tt, (refl, tt))

taken_there : (cond : ℕ) → AreThere (symbols (branch_condition_bits cond))
taken_there cond = by (nat_lt cond 12)
  where
    by : (low : Bool) → AreThere (symbols (if low then suffix (name.BranchCondition cond) else []))
    by true = (tt, (refl, tt))
    by false = tt

flags_there : (sets : Bool) → AreThere (symbols (flags_bits sets))
flags_there true = (tt, (refl, tt))
flags_there false = tt

-- loads

write_there : (o : Option Write) → AreThere (symbols (write_bits o))
write_there None = tt
write_there (Some w) = suffix_there w.cond

write_at : (o : Option Write) → IfSome o IsWrite → is_nowhere (write_target o) ≡ true → write_target o ≡ InBoth 39
write_at None is e = refl
write_at (Some w) is e = no_case _ (sym is.somewhere ∙ e)

also_there : (o : Option Write) → IfSome o IsWrite → PartsThere (also_parts o)
also_there None is = tt
also_there (Some w) is = ((refl, both_there (symbols (condition_bits w.cond)) (symbols (target_bits w.to)) (suffix_there w.cond) (target_there w.to (write_at (Some w) is))), tt)

load_there : (l : Load) → IsLoad l → PartsThere (load_part l ∷ also_parts l.mul)
load_there l is =
    let to : AreThere (symbols (target_bits (write_target l.add)) ++ symbol.Comma ∷ symbol.Number l.immediate ∷ []) =
    both_there (symbols (target_bits (write_target l.add))) _ (target_there (write_target l.add) (write_at l.add is.add)) (tt, (tt, tt)) in
    ((refl, both_there (symbols (write_bits l.add)) _ (write_there l.add) (both_there (symbols (flags_bits l.sets)) _ (flags_there l.sets) to)), also_there l.mul is.mul)

-- branches

row_there : (row : ℕ) → row < 32 → is_somewhere (name.Register (register.RowA row)) ≡ true
row_there row low = grind (arith, nat_tests, low)

links_there : (dash : Bool) (to : Place) (o : Option ℕ) → AreThere (symbols (target_bits to)) → IfSome o (λ row. row < 32) → PartsThere (link_parts_by dash to ++ row_parts o)
links_there true to None there low = tt
links_there true to (Some row) there low = ((refl, (row_there row low, tt)), tt)
links_there false to None there low = ((refl, there), tt)
links_there false to (Some row) there low = ((refl, there), ((refl, (row_there row low, tt)), tt))

branch_there : (b : Branch) → IsBranch b → PartsThere (branch_part b ∷ link_parts b)
branch_there b is =
    let add : AreThere (symbols (target_bits b.add)) = target_there b.add (at_nowhere (is_exchanged_branch b) b.add is.add_to) in
    let mul : AreThere (symbols (target_bits b.mul)) = target_there b.mul (at_nowhere (not (is_exchanged_branch b)) b.mul is.mul_to) in
    ((first b.relative, both_there (symbols (branch_condition_bits b.cond)) _ (taken_there b.cond) (both_there (symbols (target_bits b.add)) _ add (tt, (tt, tt)))), links_there (is_dash b.mul) b.mul b.register mul is.row)
  where
    first : (relative : Bool) → is_somewhere (if relative then name.RelativeBranch else name.Branch) ≡ true
    first true = refl
    first false = refl

-- the whole

pub canonical_read : (at : ℕ) (end : Token) (xs : List Placed) (i : Instruction) → HasWord i → map (λ x. x.symbol) xs ≡ line_symbols i
    → read_line at end xs ≡ Ok (Says i)
unfolding line_bits
canonical_read at end xs (instruction.Both u) has e = both_read at end (units_parts u) u xs (units_spelled u has.0 has.1) has.0 has.1 (e ∙ units_whole u)
canonical_read at end xs (instruction.Load l) has e = load_read at end (load_part l ∷ also_parts l.mul) l xs (load_spelled l has) has (load_there l has) (e ∙ load_whole l)
canonical_read at end xs (instruction.Semaphore s) has e = semaphore_read at end (semaphore_part s ∷ []) s xs (semaphore_by s.down s.number has) has (e ∙ semaphore_whole s)
canonical_read at end xs (instruction.Branch b) has e =
    branch_line_read at end (branch_part b ∷ link_parts b) b xs (branch_spelled at (label_in xs) b has) has (branch_there b has) (e ∙ branch_whole b)
