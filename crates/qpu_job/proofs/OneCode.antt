-- What programs are assembled to is determined, and which is the first that isn't assembled.
use Rattle.std.proofs.Common.{◌≡◌, ℕ, List, [], ◌∷◌, ◌++◌, Result, Ok, Err, refl, ap, sym, subst, ◌∙◌}
use Rattle.std.specs.List.{AllZip}
use Rattle.qpu_token.specs.declared.fault.AsmFault.{AsmFault}
use Rattle.qpu_asm.proofs.OneAssembly.{one_assembly}
use Rattle.qpu_job.specs.Plan.{Program}
use Rattle.qpu_job.specs.Programs.{IsCode, IsAsmFault, fault_in_job, HaveCodes, no_program, one_more, IsFirstAsmFault}

-- one program

same_words : (c d : List ℕ) → ◌≡◌ {A = Result (List ℕ) AsmFault} (Ok c) (Ok d) → c ≡ d
same_words c d e = cc

same_fault : (f g : AsmFault) → ◌≡◌ {A = Result (List ℕ) AsmFault} (Err f) (Err g) → f ≡ g
same_fault f g e = cc

not_both : (c : List ℕ) (f : AsmFault) → ◌≡◌ {A = Result (List ℕ) AsmFault} (Ok c) (Err f) → ⊥
not_both c f e = absurd (cc)

abbrev Gives : Program → List ℕ → Type 0
Gives program code = IsCode program.text code

gives_one : (program : Program) (c d : List ℕ) → Gives program c → Gives program d → c ≡ d
gives_one program c d p q = same_words c d (one_assembly program.text (Ok c) (Ok d) p q)

gives_or_fails : (program : Program) (c : List ℕ) (f : AsmFault) → Gives program c → IsAsmFault program f → ⊥
gives_or_fails program c f p q = not_both c q.own (one_assembly program.text (Ok c) (Err q.own) p q.due)

fails_one : (program : Program) (f g : AsmFault) → IsAsmFault program f → IsAsmFault program g → f ≡ g
fails_one program f g p q =
    p.placed
    ∙ (ap (fault_in_job program.line) (same_fault p.own q.own (one_assembly program.text (Err p.own) (Err q.own) p.due q.due))
    ∙ sym q.placed)

-- programs and their codes, place by place

both_same : {B : Type 0} (y z : B) (ys zs : List B) → y ≡ z → ys ≡ zs → y ∷ ys ≡ z ∷ zs
both_same y z ys zs p q = ap (λ b. b ∷ ys) p ∙ ap (λ bs. z ∷ bs) q

zip_push : (programs : List Program) (codes : List (List ℕ)) (program : Program) (code : List ℕ) → AllZip Gives programs codes → Gives program code
    → AllZip Gives (programs ++ program ∷ []) (codes ++ code ∷ [])
zip_push [] [] program code zip one = (one, tt)
zip_push [] (c ∷ codes) program code zip one = absurd zip
zip_push (p ∷ programs) [] program code zip one = absurd zip
zip_push (p ∷ programs) (c ∷ codes) program code zip one = (zip.0, zip_push programs codes program code zip.1 one)

zip_of : {programs : List Program} {codes : List (List ℕ)} → HaveCodes programs codes → AllZip Gives programs codes
zip_of no_program = tt
zip_of (one_more {programs} {codes} {code} program have one) = zip_push programs codes program code (zip_of have) one

zips_same : (programs : List Program) (cs ds : List (List ℕ)) → AllZip Gives programs cs → AllZip Gives programs ds → cs ≡ ds
zips_same [] [] [] p q = refl
zips_same [] [] (d ∷ ds) p q = absurd q
zips_same [] (c ∷ cs) ds p q = absurd p
zips_same (program ∷ programs) [] ds p q = absurd p
zips_same (program ∷ programs) (c ∷ cs) [] p q = absurd q
zips_same (program ∷ programs) (c ∷ cs) (d ∷ ds) p q =
    both_same c d cs ds (gives_one program c d p.0 q.0) (zips_same programs cs ds p.1 q.1)

pub codes_one : (programs : List Program) (cs ds : List (List ℕ)) → HaveCodes programs cs → HaveCodes programs ds → cs ≡ ds
codes_one programs cs ds p q = zips_same programs cs ds (zip_of p) (zip_of q)

-- the first that isn't assembled

never_within : (above : List Program) (program : Program) (below : List Program) (codes : List (List ℕ)) (f : AsmFault)
    → AllZip Gives (above ++ program ∷ below) codes → IsAsmFault program f → ⊥
never_within [] program below [] f zip fails = zip
never_within [] program below (c ∷ codes) f zip fails = gives_or_fails program c f zip.0 fails
never_within (a ∷ above) program below [] f zip fails = zip
never_within (a ∷ above) program below (c ∷ codes) f zip fails = never_within above program below codes f zip.1 fails

pub never_first : (programs : List Program) (codes : List (List ℕ)) (f : AsmFault) → HaveCodes programs codes → IsFirstAsmFault programs f → ⊥
never_first programs codes f have first =
    never_within first.above first.program first.below codes f (subst (λ (ps : List Program). AllZip Gives ps codes) first.all (zip_of have)) first.fails

heads : (p q : Program) (ps qs : List Program) → p ∷ ps ≡ q ∷ qs → p ≡ q
heads p q ps qs e = cc

tails : (p q : Program) (ps qs : List Program) → p ∷ ps ≡ q ∷ qs → ps ≡ qs
tails p q ps qs e = cc

firsts_meet : (above : List Program) (p : Program) (below above' : List Program) (p' : Program) (below' : List Program) (cs ds : List (List ℕ)) (f g : AsmFault)
    → above ++ p ∷ below ≡ above' ++ p' ∷ below' → AllZip Gives above cs → AllZip Gives above' ds → IsAsmFault p f → IsAsmFault p' g → f ≡ g
firsts_meet [] p below [] p' below' cs ds f g same zip zip' fails fails' =
    fails_one p f g fails (subst (λ (q : Program). IsAsmFault q g) (sym (heads p p' below below' same)) fails')
firsts_meet [] p below (a ∷ above') p' below' cs [] f g same zip zip' fails fails' = absurd zip'
firsts_meet [] p below (a ∷ above') p' below' cs (d ∷ ds) f g same zip zip' fails fails' =
    absurd (gives_or_fails a d f zip'.0 (subst (λ (q : Program). IsAsmFault q f) (heads p a below (above' ++ p' ∷ below') same) fails))
firsts_meet (a ∷ above) p below [] p' below' [] ds f g same zip zip' fails fails' = absurd zip
firsts_meet (a ∷ above) p below [] p' below' (c ∷ cs) ds f g same zip zip' fails fails' =
    absurd (gives_or_fails a c g zip.0 (subst (λ (q : Program). IsAsmFault q g) (sym (heads a p' (above ++ p ∷ below) below' same)) fails'))
firsts_meet (a ∷ above) p below (b ∷ above') p' below' [] ds f g same zip zip' fails fails' = absurd zip
firsts_meet (a ∷ above) p below (b ∷ above') p' below' (c ∷ cs) [] f g same zip zip' fails fails' = absurd zip'
firsts_meet (a ∷ above) p below (b ∷ above') p' below' (c ∷ cs) (d ∷ ds) f g same zip zip' fails fails' =
    firsts_meet above p below above' p' below' cs ds f g (tails a b (above ++ p ∷ below) (above' ++ p' ∷ below') same) zip.1 zip'.1 fails fails'

pub first_one : (programs : List Program) (f g : AsmFault) → IsFirstAsmFault programs f → IsFirstAsmFault programs g → f ≡ g
first_one programs f g p q =
    firsts_meet p.above p.program p.below q.above q.program q.below p.codes q.codes f g (sym p.all ∙ q.all) (zip_of p.built) (zip_of q.built) p.fails q.fails
