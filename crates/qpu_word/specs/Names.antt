-- VideoCore IV 3D Architecture Reference Guide, "QPU Register Address Map": the addresses that have
-- names. The names are this project's own.
use Rattle.std.specs.Prelude.{◌≡◌, ◌≢◌, ℕ, ◌+◌, ◌/◌, ◌%◌, ◌==◌, Bool, true, false, nat_lt, List, [], ◌∷◌, ◌++◌, codes, Option, Some, None, if◌then◌else◌}
use Rattle.qpu_word.specs.declared.name.Place.{Place}
use Rattle.qpu_word.specs.declared.name.Place.TheVariants.{Both, FileA, FileB}
use Rattle.qpu_word.specs.declared.code.TheConstants.{ROWS, NOWHERE, READ_UNIFORM, READ_NUMBER, READ_VPM, READ_DMA_BUSY, READ_DMA_WAIT, READ_MUTEX, WRITE_R0, WRITE_R5, WRITE_HOST_INT, WRITE_UNIFORMS_ADDRESS, WRITE_VPM, WRITE_VPM_SETUP, WRITE_DMA_ADDRESS, WRITE_MUTEX, WRITE_TMU0_S, WRITE_TMU1_S}

-- a number below 100 in decimal
abbrev pub two_digits : ℕ → List ℕ
two_digits n = if nat_lt n 10 then (48 + n) ∷ [] else (48 + n / 10) ∷ (48 + n % 10) ∷ []

-- one name or another, by the file
abbrev pub by_file : Bool → List ℕ → List ℕ → Option (List ℕ)
by_file in_b a b = Some (if in_b then b else a)

-- the name of a row of a file
unfoldable pub row_name : Bool → ℕ → List ℕ
row_name in_b n = (if in_b then codes "rb" else codes "ra") ++ two_digits n

-- the name of a read address of file A or B, where it has one
unfoldable pub read_name : Bool → ℕ → Option (List ℕ)
read_name in_b address =
    if nat_lt address ROWS then Some (row_name in_b address)
    else if address == READ_UNIFORM then by_file in_b (codes "unif") (codes "unifb")
    else if address == READ_NUMBER then by_file in_b (codes "elem_num") (codes "qpu_num")
    else if address == READ_VPM then by_file in_b (codes "vpm") (codes "vpmb")
    else if address == READ_DMA_BUSY then by_file in_b (codes "vpm_ld_busy") (codes "vpm_st_busy")
    else if address == READ_DMA_WAIT then by_file in_b (codes "vpm_ld_wait") (codes "vpm_st_wait")
    else if address == READ_MUTEX then by_file in_b (codes "mutex_acq") (codes "mutex_acqb")
    else None

-- the name of a write address of file A or B, where it has one
unfoldable pub write_name : Bool → ℕ → Option (List ℕ)
write_name in_b address =
    if nat_lt address ROWS then Some (row_name in_b address)
    else if address == WRITE_R0 then Some (codes "r0")
    else if address == WRITE_R0 + 1 then Some (codes "r1")
    else if address == WRITE_R0 + 2 then Some (codes "r2")
    else if address == WRITE_R0 + 3 then Some (codes "r3")
    else if address == WRITE_R5 then by_file in_b (codes "r5quad") (codes "r5rep")
    else if address == WRITE_HOST_INT then Some (codes "host_int")
    else if address == NOWHERE then Some (codes "-")
    else if address == WRITE_UNIFORMS_ADDRESS then Some (codes "unif_addr")
    else if address == WRITE_VPM then Some (codes "vpm")
    else if address == WRITE_VPM_SETUP then by_file in_b (codes "vr_setup") (codes "vw_setup")
    else if address == WRITE_DMA_ADDRESS then by_file in_b (codes "vr_addr") (codes "vw_addr")
    else if address == WRITE_MUTEX then Some (codes "mutex_rel")
    else if address == WRITE_TMU0_S then Some (codes "t0s")
    else if address == WRITE_TMU1_S then Some (codes "t1s")
    else None

-- the place of an address whose name in either file is the one that is looked for
abbrev pub place_at : ℕ → Bool → Bool → Option Place
place_at address true true = Some (Both address)
place_at address true false = Some (FileA address)
place_at address false true = Some (FileB address)
place_at address false false = None

-- a place has a name in a table of names by file and address: in both files, or in one alone
abbrev pub IsNamed : (Bool → ℕ → Option (List ℕ)) → List ℕ → Place → Type 0
IsNamed names name (Both address) = (names false address ≡ Some name) × (names true address ≡ Some name)
IsNamed names name (FileA address) = (names false address ≡ Some name) × (names true address ≢ Some name)
IsNamed names name (FileB address) = (names false address ≢ Some name) × (names true address ≡ Some name)

-- no address of a table has a name
abbrev pub IsNoName : (Bool → ℕ → Option (List ℕ)) → List ℕ → Type 0
IsNoName names name = (in_b : Bool) (address : ℕ) → names in_b address ≢ Some name
