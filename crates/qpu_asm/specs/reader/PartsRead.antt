-- Parts that are read, or the token that isn't due. This project's own.
use Rattle.std.specs.Prelude.{List, Option, Some, None, Result, Ok, Err}
use Rattle.qpu_token.specs.declared.token.Token.{Token}
use Rattle.qpu_asm.specs.declared.part.Part.{Part}

abbrev pub parts_read : List Part → Option Token → Result (List Part) Token
parts_read parts None = Ok parts
parts_read parts (Some token) = Err token
