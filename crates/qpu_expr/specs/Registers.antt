-- VideoCore IV 3D Architecture Reference Guide, "QPU Register Address Map": the names that stand for a
-- register as destination or operand. A `-` is none of them.
use Rattle.std.specs.Prelude.{ℕ, ◌==◌, ◌&&◌, ◌||◌, Bool, false, nat_eq, List, [], ◌∷◌, codes}
use Rattle.std.specs.Cmp.Lexicographic.{pointwise}
use Rattle.qpu_text.specs.Bytes.{byte_between, is_digit}

-- digits of 0 to 31, with no leading zero
abbrev pub is_row_number : List ℕ → Bool
is_row_number [] = false
is_row_number (a ∷ []) = is_digit a
is_row_number (a ∷ b ∷ []) = (byte_between 49 50 a && is_digit b) || ((a == 51) && byte_between 48 49 b)
is_row_number (a ∷ b ∷ c ∷ rest) = false

-- `r0` to `r5`, `ra0` to `ra31`, `rb0` to `rb31`
unfoldable pub is_numbered : List ℕ → Bool
is_numbered [] = false
is_numbered (a ∷ []) = false
is_numbered (a ∷ b ∷ []) = (a == 114) && byte_between 48 53 b
is_numbered (a ∷ b ∷ c ∷ rest) = (a == 114) && byte_between 97 98 b && is_row_number (c ∷ rest)

abbrev pub is_text : List ℕ → List ℕ → Bool
is_text word text = pointwise nat_eq word text

-- what is read under an address above 31
unfoldable pub is_source : List ℕ → Bool
is_source word =
    is_text word (codes "unif") || is_text word (codes "unifb")
    || is_text word (codes "elem_num") || is_text word (codes "qpu_num")
    || is_text word (codes "vpm") || is_text word (codes "vpmb")
    || is_text word (codes "vpm_ld_busy") || is_text word (codes "vpm_st_busy")
    || is_text word (codes "vpm_ld_wait") || is_text word (codes "vpm_st_wait")
    || is_text word (codes "mutex_acq") || is_text word (codes "mutex_acqb")

-- what is written under an address above 31
unfoldable pub is_target : List ℕ → Bool
is_target word =
    is_text word (codes "r5quad") || is_text word (codes "r5rep") || is_text word (codes "host_int")
    || is_text word (codes "unif_addr")
    || is_text word (codes "vr_setup") || is_text word (codes "vw_setup")
    || is_text word (codes "vr_addr") || is_text word (codes "vw_addr")
    || is_text word (codes "mutex_rel") || is_text word (codes "t0s") || is_text word (codes "t1s")

-- the name of a register
unfoldable pub is_register : List ℕ → Bool
is_register word = is_numbered word || is_source word || is_target word
