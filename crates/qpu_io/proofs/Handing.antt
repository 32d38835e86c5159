-- How a sink that gathers hands on what waits, write by write.
use Rattle.std.proofs.Common.{◌≡◌, ℕ, List, [], ◌++◌, take, drop, refl, ap, sym, ◌∙◌, subst, append_assoc}
use Rattle.std.proofs.lemmas.List.{append-nil, take-append-drop}
use Rattle.qpu_io.specs.Faults.{Rose}
use Rattle.qpu_io.specs.Gathered.{Gathered, HandsOn, KeepsBack}
use Rattle.qpu_io.specs.Output.{Output, appended, Writes, WriteFails}
use Rattle.qpu_io.proofs.Outputs.{appended_then, appended_none}

-- a front of the bytes that waited was handed on, the others wait still
pub record Hands {K : Type 0} (shown : K → Output) (old new : Gathered K) : Type 0 where
  pub part : List ℕ
  pub splits : old.waiting ≡ part ++ new.waiting
  pub held : shown new.sink ≡ appended (shown old.sink) part

-- nothing was handed on yet
pub hands_nothing : {K : Type 0} {shown : K → Output} (g : Gathered K) → Hands shown g g
hands_nothing {shown = shown} g = record { part = []; splits = refl; held = sym (appended_none (shown g.sink)) }

-- one more write
pub hands_more : {K : Type 0} {shown : K → Output} {old mid new : Gathered K} {n : ℕ} → Hands shown old mid
    → Writes (shown mid.sink) (shown new.sink) mid.waiting n → new.waiting ≡ drop n mid.waiting
    → Hands shown old new
hands_more {shown = shown} {old} {mid} {new} {n} before writes left = record {
  part = before.part ++ take n mid.waiting;
  splits = before.splits
      ∙ (ap (λ z. before.part ++ z) (sym (take-append-drop n mid.waiting) ∙ ap (λ z. take n mid.waiting ++ z) (sym left))
      ∙ sym (append_assoc before.part (take n mid.waiting) new.waiting));
  held = appended_then (shown old.sink) (shown mid.sink) (shown new.sink) before.part (take n mid.waiting) before.held writes.held;
}

-- nothing waits any longer
pub hands_all : {K : Type 0} {shown : K → Output} {old new : Gathered K} → Hands shown old new
    → new.waiting ≡ [] → HandsOn shown old new
hands_all {shown = shown} {old} {new} before empty = record {
  held =
      let whole : before.part ≡ old.waiting =
      sym (append-nil before.part) ∙ (ap (λ z. before.part ++ z) (sym empty) ∙ sym before.splits) in
      before.held ∙ ap (λ z. appended (shown old.sink) z) whole;
  waiting = empty;
}

-- a write failed
pub hands_part : {K : Type 0} {shown : K → Output} {old mid new : Gathered K} → Hands shown old mid
    → WriteFails (shown mid.sink) (shown new.sink) → new.waiting ≡ mid.waiting → KeepsBack shown old new
hands_part {shown = shown} {old} {mid} {new} before fails left = record {
  part = before.part;
  splits = before.splits ∙ ap (λ z. before.part ++ z) (sym left);
  held = fails.held ∙ ap (λ (z : Output). z.held) before.held;
  faults = subst (λ (z : Output). Rose z.faults (shown new.sink).faults) before.held fails.faults;
}
