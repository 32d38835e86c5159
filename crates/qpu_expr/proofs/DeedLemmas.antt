-- What a line leads to where it has no fault.
use Rattle.std.proofs.Common.{◌≡◌, ℕ, List, Option, Some, None, refl}
use Rattle.std.specs.Prelude.{IfOk}
use Rattle.qpu_token.specs.declared.fault.AsmFault.{AsmFault}
use Rattle.qpu_expr.specs.declared.place.Place.{Place}
use Rattle.qpu_expr.specs.declared.deed.Act.{Act}
use Rattle.qpu_expr.specs.declared.deed.Deed.{Deed}
use Rattle.qpu_expr.specs.LineTokens.{LineTokens}
use Rattle.qpu_expr.specs.Lines.{label_of}
use Rattle.qpu_expr.specs.StageParts.{Stage}
use Rattle.qpu_expr.specs.Stage.{too_long, tokens_counted, labelled, leaves, changed, label_twice}
use Rattle.qpu_expr.specs.Deeds.{least_fault, done_by}
use Rattle.qpu_expr.proofs.RoomLemmas.{not_long}

-- without a fault no limit is passed, and the deed is done
pub done_gives : (P : Act × Stage → Type 0) (text : List ℕ) (line : LineTokens) (d : Deed) (s : Stage) → (too_long s line (leaves d.change) ≡ None → P (d.act, changed text d.change (labelled text (label_of text line.tokens) (tokens_counted line s)))) → IfOk (done_by text line d s) P
unfolding done_by
done_gives P text line d s gives = by_fault (least_fault label long d.findings) refl
  where
    label : Option Place
    label = label_twice text s.labels (label_of text line.tokens)

    long : Option Place
    long = too_long s line (leaves d.change)

    by_fault : (r : Option AsmFault) → least_fault label long d.findings ≡ r → IfOk (done_by text line d s) P
    by_fault (Some fault) e = rw e tt
    by_fault None e = rw e (gives (not_long label long d.findings e))
