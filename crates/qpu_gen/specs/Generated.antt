-- The generated job of a number, as its text: 49,152 words of memory that count on from the number, and
-- twelve processors that each add the number to 4,096 of them and store the sums. This project's own.
use Rattle.std.specs.Prelude.{ℕ, ◌+◌, ◌^◌, ◌%◌, List, [], ◌∷◌, ◌++◌, codes, decimal, flat_map, map}
use Rattle.std.specs.List.{range_with_len}
use Rattle.qpu_text.specs.Bytes.{LF, SPACE}
use Rattle.qpu_io.specs.Text.{joined}
use Rattle.qpu_gen.specs.declared.generated.TheConstants.{COUNTED_WORDS}

-- a space and a number
abbrev pub spaced : ℕ → List ℕ
spaced n = SPACE ∷ decimal n

-- the line `data A V ..`
unfoldable pub data_line : ℕ → List ℕ → List ℕ
data_line address values = (codes "data" ++ flat_map spaced (address ∷ values)) ++ LF ∷ []

-- the first words, for the uniforms of all processors: where the counted words begin, the number, and
-- where the sums go, in bytes
abbrev pub uniforms : ℕ → List ℕ
uniforms n = 64 ∷ n ∷ 196672 ∷ []

-- so many words that count on from a number, modulo 2^32
unfoldable pub counted : ℕ → ℕ → List ℕ
counted n words = map (λ k. (n + k) % 2 ^ 32) (range_with_len 0 words)

-- the program of all processors
unfoldable pub program_text : List ℕ
program_text =
    joined
    (codes "or r0, qpu_num, qpu_num\n"
    ∷ codes "ldi r1, 0x00004000\n"
    ∷ codes "nop; mul24 r0, r0, r1\n"
    ∷ codes "or r1, elem_num, elem_num\n"
    ∷ codes "shl r1, r1, 2\n"
    ∷ codes "add r1, r1, r0\n"
    ∷ codes "add ra0, r1, unif\n"
    ∷ codes "or rb1, unif, unif\n"
    ∷ codes "add ra2, r0, unif\n"
    ∷ codes "ldi r3, 0x00001a00\n"
    ∷ codes "add rb4, r3, qpu_num\n"
    ∷ codes "or r3, qpu_num, qpu_num\n"
    ∷ codes "shl r3, r3, 7\n"
    ∷ codes "ldi r2, 0x80904000\n"
    ∷ codes "add rb5, r2, r3\n"
    ∷ codes "ldi r3, 0x00000100\n"
    ∷ codes ":loop or t0s, ra0, ra0\n"
    ∷ codes "ldi r1, 0x00000040\n"
    ∷ codes "add ra0, ra0, r1; ldtmu0\n"
    ∷ codes "add r2, r4, rb1\n"
    ∷ codes "or vw_setup, rb4, rb4\n"
    ∷ codes "or vpm, r2, r2\n"
    ∷ codes "or vw_setup, rb5, rb5\n"
    ∷ codes "or vw_addr, ra2, ra2\n"
    ∷ codes "or -, vpm_st_wait, vpm_st_wait\n"
    ∷ codes "sub.setf r3, r3, 1\n"
    ∷ codes "brr.anynz -, :loop\n"
    ∷ codes "add ra2, ra2, r1\n"
    ∷ codes "nop\n"
    ∷ codes "nop\n"
    ∷ codes "nop; thrend\n"
    ∷ codes "nop\n"
    ∷ codes "nop\n"
    ∷ [])

-- what stands before the data, and behind
unfoldable pub head_text : List ℕ
head_text = codes "qpujob 1\nmemory 131072\nlimit 100000\n"

unfoldable pub starts_text : List ℕ
starts_text =
    joined
    (codes "start 0 a 0\n"
    ∷ codes "start 1 a 0\n"
    ∷ codes "start 2 a 0\n"
    ∷ codes "start 3 a 0\n"
    ∷ codes "start 4 a 0\n"
    ∷ codes "start 5 a 0\n"
    ∷ codes "start 6 a 0\n"
    ∷ codes "start 7 a 0\n"
    ∷ codes "start 8 a 0\n"
    ∷ codes "start 9 a 0\n"
    ∷ codes "start 10 a 0\n"
    ∷ codes "start 11 a 0\n"
    ∷ [])

unfoldable pub tail_text : List ℕ
tail_text = codes "program a\n" ++ program_text ++ codes "endprogram\n" ++ starts_text

-- the job of a number
unfoldable pub generated_job : ℕ → List ℕ
generated_job n = head_text ++ data_line 0 (uniforms n) ++ data_line 64 (counted n COUNTED_WORDS) ++ tail_text
