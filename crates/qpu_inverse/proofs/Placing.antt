-- What a token is, as the disassembler and the assembler's last stage read it: the same.
use Rattle.std.proofs.Common.{◌≡◌, ℕ, List, refl}
use Rattle.qpu_token.specs.declared.token.TokenKind.{TokenKind}
use Rattle.qpu_token.specs.declared.token.TokenKind.TheVariants as kind
use Rattle.qpu_token.specs.declared.token.Token.{Token}
use Rattle.qpu_asm.specs.Placed.{symbol_of as symbol_placed}
use Rattle.qpu_dis.specs.Tokens.{symbol_of}

same_by : (text : List ℕ) (k : TokenKind) (token : Token) → token.kind ≡ k → symbol_placed text token ≡ symbol_of text token
unfolding symbol_placed
same_by text kind.Name token e = rw e refl
same_by text (kind.Number value) token e = rw e refl
same_by text kind.Punct token e = rw e refl
same_by text kind.LineEnd token e = rw e refl

pub same_symbol : (text : List ℕ) (token : Token) → symbol_placed text token ≡ symbol_of text token
same_symbol text token = same_by text token.kind token refl
