-- Neighbouring steps of one actor in a record make one item; a report names only words that are not clear.
use Rattle.std.proofs.Common.{◌≡◌, [], ◌∷◌, codes, refl}
use Rattle.qpu_machine.specs.declared.actor.Actor.TheVariants.{Exec, Load, Store, Fetch}
use Rattle.qpu_text.specs.Digits.{hex_digits}
use Rattle.qpu_io.specs.Text.{in_turn}
use Rattle.qpu_shared.specs.SharedState.{opening_shared}
use Rattle.qpu_machine.specs.Machine.{machine_of}
use Rattle.qpu_machine.specs.Ending.{ending_of}
use Rattle.qpu_record.specs.Record.{merged}
use Rattle.qpu_report.specs.Report.{report_text, shared_text, memory_text, vpm_text}

-- neighbouring steps of one actor make one item
items : merged (Exec 0 ∷ Exec 0 ∷ Exec 1 ∷ Load 1 ∷ Load 0 ∷ Fetch 0 0 ∷ Fetch 0 0 ∷ Fetch 0 1 ∷ Store 2 ∷ Exec 0 ∷ [])
    ≡ record { actor = Exec 0; count = 2 } ∷ record { actor = Exec 1; count = 1 } ∷ record { actor = Load 1; count = 1 } ∷ record { actor = Load 0; count = 1 }
    ∷ record { actor = Fetch 0 0; count = 2 } ∷ record { actor = Fetch 0 1; count = 1 } ∷ record { actor = Store 2; count = 1 } ∷ record { actor = Exec 0; count = 1 } ∷ []
unfolding merged
items = refl

-- the report of two words of memory and no processor
two_words : report_text (machine_of (0 ∷ 7 ∷ []) 10 [] []) ≡ codes "report\nmem 00000000 00000000 00000007\nending done\nendreport\n"
unfolding report_text shared_text in_turn hex_digits memory_text vpm_text machine_of opening_shared ending_of
two_words = refl

-- the report of nine words: a group that is clear has no line, and the last has what remains
nine_words : report_text (machine_of (0 ∷ 0 ∷ 0 ∷ 0 ∷ 0 ∷ 0 ∷ 0 ∷ 0 ∷ 0x89abcdef ∷ []) 10 [] []) ≡ codes "report\nmem 00000020 89abcdef\nending done\nendreport\n"
unfolding report_text shared_text in_turn hex_digits memory_text vpm_text machine_of opening_shared ending_of
nine_words = refl
