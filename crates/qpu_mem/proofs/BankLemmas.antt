-- Words in banks: how many there are, where each stands, and what is left after one is set.
use Rattle.std.proofs.Common.{◌≡◌, ◌≢◌, ℕ, suc, ◌+◌, ◌-◌, ◌*◌, ◌/◌, ◌%◌, ◌^◌, ◌<◌, ◌≤◌, ◌⊎◌, inl, inr, zero, false, List, [], ◌∷◌, ◌++◌, min, length, get_or, take, drop, replicate, refl, ap, sym, ◌∙◌, arith}
use Rattle.std.specs.Prelude.{◌==◌}
use Rattle.std.proofs.Math.ListN.{set, length-set}
use Rattle.std.proofs.lemmas.Bool.{cases_eq, cases_lt}
use Rattle.std.proofs.lemmas.List.{ext_get_or, get_or_push, length-append, get_or_append_left, get_or-append_right, get_or_default, get_or-set_same, get_or-set_other, get_or-take, get_or-drop, length-take, length-drop, get_or-replicate, length-replicate}
use Rattle.std.proofs.lemmas.List.Concat.{flat_map-cons}
use Rattle.qpu_bytes.specs.Elements.{with_words, words_from}
use Rattle.qpu_bytes.proofs.RunLemmas.{length_with, before_run, in_run, behind_run, length_from, word_from}
use Rattle.qpu_mem.specs.Banks.{words_in, bank_words, IsBanked}
use Rattle.qpu_mem.specs.declared.bank.TheConstants.{BANK}
use Rattle.qpu_mem.specs.declared.memory.TheConstants.{GROUP}

-- the banks behind the first
rest_banked : {words : ℕ} (b : List ℕ) (bs : List (List ℕ)) → IsBanked words (b ∷ bs) → IsBanked (words - BANK) bs
rest_banked {words} b bs of = record {
  room = let room = of.room in omega (arith, room);
  each = λ i low.
      let same : bank_words words (suc i) ≡ bank_words (words - BANK) i = omega arith in
      of.each (suc i) (omega (arith, low)) ∙ same;
}

-- how many words stand in banks
pub length_in : (words : ℕ) (banks : List (List ℕ)) → IsBanked words banks → length (words_in banks) ≡ words
length_in words [] of = let room = of.room in omega (arith, room)
length_in words (b ∷ bs) of =
    let first : length b ≡ min BANK (words - BANK * 0) = of.each 0 (omega arith) in
    let rest : length (words_in bs) ≡ words - BANK = length_in (words - BANK) bs (rest_banked b bs of) in
    ap length (flat_map-cons (λ bank. bank) b bs) ∙ length-append b (words_in bs) ∙ omega (arith, first, rest)

-- a word of the first bank, or of those behind it
read_by : {words : ℕ} (b : List ℕ) (bs : List (List ℕ)) (at : ℕ) → IsBanked words (b ∷ bs) → at < words
    → (BANK ≤ at → get_or (words_in bs) (at - BANK) 0 ≡ get_or (get_or bs ((at - BANK) / BANK) []) ((at - BANK) % BANK) 0)
    → (at < BANK) ⊎ (BANK ≤ at)
    → get_or (words_in (b ∷ bs)) at 0 ≡ get_or (get_or (b ∷ bs) (at / BANK) []) (at % BANK) 0
read_by {words} b bs at of low behind (inl before) =
    let long : length b ≡ min BANK (words - BANK * 0) = of.each 0 (omega arith) in
    let bank : at / BANK ≡ 0 = omega arith in
    let place : at % BANK ≡ at = omega arith in
    ap (λ ws. get_or ws at 0) (flat_map-cons (λ bank. bank) b bs)
    ∙ get_or_append_left b (words_in bs) 0 at (omega (arith, long))
    ∙ rw (bank, place) refl
read_by {words} b bs at of low behind (inr past) =
    let first : length b ≡ min BANK (words - BANK * 0) = of.each 0 (omega arith) in
    let long : length b ≡ BANK = omega (arith, first) in
    let bank : at / BANK ≡ suc ((at - BANK) / BANK) = omega arith in
    let place : at % BANK ≡ (at - BANK) % BANK = omega arith in
    ap (λ ws. get_or ws at 0) (flat_map-cons (λ bank. bank) b bs)
    ∙ get_or-append_right b (words_in bs) BANK at 0 long past
    ∙ behind past
    ∙ rw (bank, place) refl

-- where each word stands
pub read : (words : ℕ) (banks : List (List ℕ)) (at : ℕ) → IsBanked words banks → at < words → get_or (words_in banks) at 0 ≡ get_or (get_or banks (at / BANK) []) (at % BANK) 0
read words [] at of low = let room = of.room in absurd (omega (arith, room))
read words (b ∷ bs) at of low =
    read_by b bs at of low (λ past. read (words - BANK) bs (at - BANK) (rest_banked b bs of) (omega arith)) (cases_lt at BANK)

-- the bank of a word is there
pub bank_there : {words : ℕ} (banks : List (List ℕ)) (at : ℕ) → IsBanked words banks → at < words → at / BANK < length banks
bank_there banks at of low = let room = of.room in omega (arith, room)

-- the word is inside its bank
pub word_there : {words : ℕ} (banks : List (List ℕ)) (at : ℕ) → IsBanked words banks → at < words → at % BANK < length (get_or banks (at / BANK) [])
word_there banks at of low = let long = of.each (at / BANK) (bank_there banks at of low) in omega (arith, long)

-- banks of which one has other words, but as many
pub kept : {words : ℕ} (banks : List (List ℕ)) (i : ℕ) (bank : List ℕ) → length bank ≡ length (get_or banks i []) → IsBanked words banks → IsBanked words (set banks i bank)
kept {words} banks i bank long of = record {
  room = let same = length-set banks i bank in let room = of.room in omega (arith, same, room);
  each = λ k low.
      let within : k < length banks = let same = length-set banks i bank in omega (arith, same, low) in
      kept_by of k within (cases_eq k i);
} where
  kept_by : (of : IsBanked words banks) (k : ℕ) → k < length banks → (k ≡ i) ⊎ (k ≢ i) → length (get_or (set banks i bank) k []) ≡ bank_words words k
  kept_by of k low (inl same) =
      let there : i < length banks = omega (arith, same, low) in
      rw same (ap length (get_or-set_same banks i bank [] there) ∙ long ∙ of.each i there)
  kept_by of k low (inr other) = ap length (get_or-set_other banks i k bank [] other) ∙ of.each k low

-- a word below the length of the list is one of the words in banks
pub one_of : {words at : ℕ} {now : List ℕ} (banks : List (List ℕ)) → IsBanked words banks → words_in banks ≡ now → at < length now → at < words
one_of {words} banks of is low =
    let long : length (words_in banks) ≡ words = length_in words banks of in
    let same = ap length is in
    omega (arith, long, same, low)

-- the bank that an index gives
pub bank_is : {words at : ℕ} {bank : List ℕ} (banks : List (List ℕ)) → IsBanked words banks → at < words → bank ≡ get_or banks (at / BANK) bank → bank ≡ get_or banks (at / BANK) []
bank_is {words} {at} {bank} banks of low is = is ∙ get_or_default banks (at / BANK) bank [] (bank_there banks at of low)

-- a word that is set in its bank is set in the list
pub written : {words at : ℕ} {bank : List ℕ} (banks : List (List ℕ)) (value : ℕ) → IsBanked words banks → at < words → bank ≡ get_or banks (at / BANK) [] → words_in (set banks (at / BANK) (set bank (at % BANK) value)) ≡ set (words_in banks) at value
written {words} {at} {bank} banks value of low is =
    ext_get_or 0 (words_in after) (set (words_in banks) at value)
    (length_in words after still ∙ sym (length-set (words_in banks) at value ∙ long))
    (λ k within.
    let small : k < words = let all = length_in words after still in omega (arith, all, within) in
    read words after k still small ∙ one_word k small (cases_eq k at) (cases_eq (k / BANK) (at / BANK))) where
      there : at / BANK < length banks
      there = bank_there banks at of low

      inside : at % BANK < length bank
      inside = rw is (word_there banks at of low)

      long : length (words_in banks) ≡ words
      long = length_in words banks of

      after : List (List ℕ)
      after = set banks (at / BANK) (set bank (at % BANK) value)

      still : IsBanked words after
      still = kept banks (at / BANK) (set bank (at % BANK) value) (length-set bank (at % BANK) value ∙ ap length is) of

      one_word : (k : ℕ) → k < words → (k ≡ at) ⊎ (k ≢ at) → (k / BANK ≡ at / BANK) ⊎ (k / BANK ≢ at / BANK) → get_or (get_or after (k / BANK) []) (k % BANK) 0 ≡ get_or (set (words_in banks) at value) k 0
      one_word k small (inl same) bank_case =
          rw same (ap (λ b. get_or b (at % BANK) 0) (get_or-set_same banks (at / BANK) (set bank (at % BANK) value) [] there)
          ∙ get_or-set_same bank (at % BANK) value 0 inside
          ∙ sym (get_or-set_same (words_in banks) at value 0 (omega (arith, long, low))))
      one_word k small (inr other) (inl beside) =
          rw beside (ap (λ b. get_or b (k % BANK) 0) (get_or-set_same banks (at / BANK) (set bank (at % BANK) value) [] there)
          ∙ get_or-set_other bank (at % BANK) (k % BANK) value 0 (λ same. other (omega (arith, beside, same)))
          ∙ ap (λ b. get_or b (k % BANK) 0) is)
          ∙ ap (λ i. get_or (get_or banks i []) (k % BANK) 0) (sym beside)
          ∙ sym (read words banks k of small)
          ∙ sym (get_or-set_other (words_in banks) at k value 0 other)
      one_word k small (inr other) (inr apart) =
          ap (λ b. get_or b (k % BANK) 0) (get_or-set_other banks (at / BANK) (k / BANK) (set bank (at % BANK) value) [] apart)
          ∙ sym (read words banks k of small)
          ∙ sym (get_or-set_other (words_in banks) at k value 0 other)

-- a group of words stands in one bank
pub group_in : {words first : ℕ} {bank now : List ℕ} (k : ℕ) (banks : List (List ℕ)) → IsBanked words banks → words_in banks ≡ now → first ≡ GROUP * k → first < words → bank ≡ get_or banks (first / BANK) [] → take GROUP (drop (first % BANK) bank) ≡ take GROUP (drop (GROUP * k) now)
group_in {words} {first} {bank} {now} k banks of view at low is =
    rw (sym at) (ext_get_or 0 (take GROUP (drop (first % BANK) bank)) (take GROUP (drop first now))
    (length_group (first % BANK) bank ∙ as_long ∙ sym (length_group first now))
    (λ i within.
    let short = length_group (first % BANK) bank in
    let small : i < GROUP = omega (arith, short, within) in
    let inside : first + i < words = omega (arith, short, within, long, at) in
    let beside : (first + i) / BANK ≡ first / BANK = omega (arith, at, small) in
    let place : (first + i) % BANK ≡ first % BANK + i = omega (arith, at, small) in
    get_or-take GROUP (drop (first % BANK) bank) i 0 small
    ∙ get_or-drop (first % BANK) bank i 0
    ∙ ap (λ b. get_or b (first % BANK + i) 0) is
    ∙ rw (sym beside, sym place) (sym (read words banks (first + i) of inside))
    ∙ ap (λ ws. get_or ws (first + i) 0) view
    ∙ sym (get_or-drop first now i 0)
    ∙ sym (get_or-take GROUP (drop first now) i 0 small))) where
      length_group : (at : ℕ) (xs : List ℕ) → length (take GROUP (drop at xs)) ≡ min GROUP (length xs - at)
      length_group at xs = length-take GROUP (drop at xs) ∙ ap (min GROUP) (length-drop at xs)

      long : length bank ≡ bank_words words (first / BANK)
      long = ap length is ∙ of.each (first / BANK) (bank_there banks first of low)

      as_long : min GROUP (length bank - first % BANK) ≡ min GROUP (length now - first)
      as_long = let all : length now ≡ words = ap length (sym view) ∙ length_in words banks of in omega (arith, long, all, at)

-- words below the length of the list are words in banks, and stand in theirs
pub run_of : {words last : ℕ} {now : List ℕ} (banks : List (List ℕ)) → IsBanked words banks → words_in banks ≡ now → last ≤ length now → last ≤ words
run_of {words} banks of is low =
    let long : length (words_in banks) ≡ words = length_in words banks of in
    let same = ap length is in
    omega (arith, long, same, low)

pub not_none : (n : ℕ) → false ≡ (n == 0) → 1 ≤ n
not_none zero none = absurd (cc)
not_none (suc n) some = omega arith

pub run_there : {words : ℕ} (banks : List (List ℕ)) (at count : ℕ) → IsBanked words banks → 1 ≤ count → at + count ≤ words → at % BANK + count ≤ BANK → at % BANK + count ≤ length (get_or banks (at / BANK) [])
run_there banks at count of some low within =
    let long = of.each (at / BANK) (bank_there banks at of (omega (arith, some, low))) in
    omega (arith, long, low, within)

-- words that stand in one bank
pub run_in : {words count : ℕ} {bank now : List ℕ} (at : ℕ) (banks : List (List ℕ)) → IsBanked words banks → words_in banks ≡ now → 1 ≤ count → at + count ≤ words → at % BANK + count ≤ BANK
    → bank ≡ get_or banks (at / BANK) [] → words_from bank (at % BANK) count ≡ words_from now at count
run_in {words} {count} {bank} {now} at banks of view some low within is =
    ext_get_or 0 (words_from bank (at % BANK) count) (words_from now at count)
    (length_from bank (at % BANK) count inside ∙ sym (length_from now at count short))
    (λ k there.
    let long = length_from bank (at % BANK) count inside in
    let small : k < count = omega (arith, long, there) in
    let beside : (at + k) / BANK ≡ at / BANK = omega (arith, small, within) in
    let place : (at + k) % BANK ≡ at % BANK + k = omega (arith, small, within) in
    word_from bank (at % BANK) count k small
    ∙ ap (λ b. get_or b (at % BANK + k) 0) is
    ∙ rw (sym beside, sym place) (sym (read words banks (at + k) of (omega (arith, small, low))))
    ∙ ap (λ ws. get_or ws (at + k) 0) view
    ∙ sym (word_from now at count k small)) where
      long_bank : length bank ≡ bank_words words (at / BANK)
      long_bank = ap length is ∙ of.each (at / BANK) (bank_there banks at of (omega (arith, some, low)))

      inside : at % BANK + count ≤ length bank
      inside = omega (arith, long_bank, low, within)

      short : at + count ≤ length now
      short = let all : length now ≡ words = ap length (sym view) ∙ length_in words banks of in omega (arith, all, low)

-- and are as small as those of their bank
pub run_small : (bank now : List ℕ) (place at count : ℕ) → words_from bank place count ≡ words_from now at count → ((i : ℕ) → get_or bank i 0 < 2 ^ 32) → (i : ℕ) → i < count → get_or now (at + i) 0 < 2 ^ 32
run_small bank now place at count same small i low =
    let is : get_or bank (place + i) 0 ≡ get_or now (at + i) 0 = sym (word_from bank place count i low) ∙ ap (λ ws. get_or ws i 0) same ∙ word_from now at count i low in
    rw (sym is) (small (place + i))

-- words that are written in their bank are written in the list
pub run_written : {words : ℕ} {bank : List ℕ} (at : ℕ) (banks : List (List ℕ)) (values : List ℕ) → IsBanked words banks → 1 ≤ length values → at + length values ≤ words → at % BANK + length values ≤ BANK
    → bank ≡ get_or banks (at / BANK) [] → words_in (set banks (at / BANK) (with_words bank (at % BANK) values)) ≡ with_words (words_in banks) at values
run_written {words} {bank} at banks values of some low within is =
    ext_get_or 0 (words_in after) (with_words (words_in banks) at values)
    (length_in words after still ∙ sym (length_with (words_in banks) at values (omega (arith, long, low)) ∙ long))
    (λ k there.
    let small : k < words = let all = length_in words after still in omega (arith, all, there) in
    read words after k still small ∙ one_word k small (cases_eq (k / BANK) (at / BANK)) (cases_lt k at) (cases_lt k (at + length values))) where
      there : at / BANK < length banks
      there = bank_there banks at of (omega (arith, some, low))

      long : length (words_in banks) ≡ words
      long = length_in words banks of

      long_bank : length bank ≡ bank_words words (at / BANK)
      long_bank = ap length is ∙ of.each (at / BANK) there

      inside : at % BANK + length values ≤ length bank
      inside = omega (arith, long_bank, low, within)

      inside_all : at + length values ≤ length (words_in banks)
      inside_all = omega (arith, long, low)

      after : List (List ℕ)
      after = set banks (at / BANK) (with_words bank (at % BANK) values)

      still : IsBanked words after
      still = kept banks (at / BANK) (with_words bank (at % BANK) values) (length_with bank (at % BANK) values inside ∙ ap length is) of

      in_bank : (k : ℕ) → k / BANK ≡ at / BANK → get_or (get_or after (k / BANK) []) (k % BANK) 0 ≡ get_or (with_words bank (at % BANK) values) (k % BANK) 0
      in_bank k beside = rw beside (ap (λ b. get_or b (k % BANK) 0) (get_or-set_same banks (at / BANK) (with_words bank (at % BANK) values) [] there))

      old : (k : ℕ) → k < words → k / BANK ≡ at / BANK → get_or bank (k % BANK) 0 ≡ get_or (words_in banks) k 0
      old k small beside = ap (λ b. get_or b (k % BANK) 0) is ∙ ap (λ i. get_or (get_or banks i []) (k % BANK) 0) (sym beside) ∙ sym (read words banks k of small)

      one_word : (k : ℕ) → k < words → (k / BANK ≡ at / BANK) ⊎ (k / BANK ≢ at / BANK) → (k < at) ⊎ (at ≤ k) → (k < at + length values) ⊎ (at + length values ≤ k)
          → get_or (get_or after (k / BANK) []) (k % BANK) 0 ≡ get_or (with_words (words_in banks) at values) k 0
      one_word k small (inl beside) (inl early) ends =
          in_bank k beside
          ∙ before_run bank (at % BANK) values (k % BANK) inside (omega (arith, beside, early))
          ∙ old k small beside
          ∙ sym (before_run (words_in banks) at values k inside_all early)
      one_word k small (inl beside) (inr from) (inl to) =
          let place : k % BANK - at % BANK ≡ k - at = omega (arith, beside, from) in
          in_bank k beside
          ∙ in_run bank (at % BANK) values (k % BANK) inside (omega (arith, beside, from)) (omega (arith, beside, to))
          ∙ ap (λ i. get_or values i 0) place
          ∙ sym (in_run (words_in banks) at values k inside_all from to)
      one_word k small (inl beside) (inr from) (inr late) =
          in_bank k beside
          ∙ behind_run bank (at % BANK) values (k % BANK) inside (omega (arith, beside, late))
          ∙ old k small beside
          ∙ sym (behind_run (words_in banks) at values k inside_all late)
      one_word k small (inr apart) (inl early) ends =
          ap (λ b. get_or b (k % BANK) 0) (get_or-set_other banks (at / BANK) (k / BANK) (with_words bank (at % BANK) values) [] apart)
          ∙ sym (read words banks k of small)
          ∙ sym (before_run (words_in banks) at values k inside_all early)
      one_word k small (inr apart) (inr from) (inl to) = absurd (apart (omega (arith, from, to, within)))
      one_word k small (inr apart) (inr from) (inr late) =
          ap (λ b. get_or b (k % BANK) 0) (get_or-set_other banks (at / BANK) (k / BANK) (with_words bank (at % BANK) values) [] apart)
          ∙ sym (read words banks k of small)
          ∙ sym (behind_run (words_in banks) at values k inside_all late)

-- the first k banks of so many words, all of them 0
pub record ClearTo (words : ℕ) (banks : List (List ℕ)) (k : ℕ) : Type 0 where
  pub long : length banks ≡ k
  pub each : (i : ℕ) → i < k → get_or banks i [] ≡ replicate (bank_words words i) 0

-- no bank yet
pub clear_none : {words : ℕ} {banks : List (List ℕ)} → banks ≡ [] → ClearTo words banks 0
clear_none none = record { long = ap length none; each = λ i low. absurd (omega (arith, low)) }

-- one more bank
pub clear_more : {words k : ℕ} {banks : List (List ℕ)} {bank : List ℕ} → ClearTo words banks k → bank ≡ replicate (bank_words words k) 0 → ClearTo words (banks ++ bank ∷ []) (k + 1)
clear_more {words} {k} {banks} {bank} before is = record {
  long = let long = before.long in length-append banks (bank ∷ []) ∙ omega (arith, long);
  each = λ i low. clear_at i low (cases_lt i k);
} where
  clear_at : (i : ℕ) → i < k + 1 → (i < k) ⊎ (k ≤ i) → get_or (banks ++ bank ∷ []) i [] ≡ replicate (bank_words words i) 0
  clear_at i low (inl earlier) = let long = before.long in get_or_append_left banks (bank ∷ []) [] i (omega (arith, long, earlier)) ∙ before.each i earlier
  clear_at i low (inr last) =
      let same : i ≡ k = omega (arith, low, last) in
      rw same (get_or_push banks bank [] k before.long ∙ is)

-- all banks are there
pub clear_banked : {words k : ℕ} {banks : List (List ℕ)} → words ≤ BANK * k → ClearTo words banks k → IsBanked words banks
clear_banked {words} {k} {banks} room of = record {
  room = let long = of.long in omega (arith, long, room);
  each = λ i low. let long = of.long in ap length (of.each i (omega (arith, long, low))) ∙ length-replicate (bank_words words i) 0;
}

-- and their words
pub clear_words : {words k : ℕ} {banks : List (List ℕ)} → words ≤ BANK * k → ClearTo words banks k → words_in banks ≡ replicate words 0
clear_words {words} {k} {banks} room of =
    let banked = clear_banked room of in
    let all = length_in words banks banked in
    ext_get_or 0 (words_in banks) (replicate words 0) (all ∙ sym (length-replicate words 0)) (λ at within.
    let low : at < words = omega (arith, all, within) in
    let there : at / BANK < k = omega (arith, room, low) in
    let offset : at % BANK < bank_words words (at / BANK) = omega (arith, low) in
    read words banks at banked low
    ∙ ap (λ b. get_or b (at % BANK) 0) (of.each (at / BANK) there)
    ∙ get_or-replicate (bank_words words (at / BANK)) (at % BANK) 0 0 offset
    ∙ sym (get_or-replicate words at 0 0 low))
