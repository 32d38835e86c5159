-- VideoCore IV 3D Architecture Reference Guide, "QPU Instruction Encoding": the forms of words.
-- That a word has a form exactly where it is in the profile is this project's own.
use Rattle.std.specs.Prelude.{ℕ, ◌==◌, Option, Some, None, Result, Ok, Err, if◌then◌else◌}
use Rattle.qpu_word.specs.declared.word.Fields.{Fields}
use Rattle.qpu_word.specs.declared.fault.WordFault.{WordFault}
use Rattle.qpu_word.specs.declared.form.Form.{Form}
use Rattle.qpu_word.specs.declared.form.Form.TheVariants.{Alu, Small, Load32, LoadSigned, LoadUnsigned, Semaphore, Branch}
use Rattle.qpu_word.specs.declared.code.TheConstants.{KIND_LOAD, KIND_LOAD_SIGNED, KIND_LOAD_UNSIGNED}
use Rattle.qpu_word.specs.Words.{fields_of, is_alu, is_small, is_branch, word_fault}

-- the form of a word with the signal of load immediates, by its kind
abbrev pub immediate_form : ℕ → Form
immediate_form kind =
    if kind == KIND_LOAD then Load32
    else if kind == KIND_LOAD_SIGNED then LoadSigned
    else if kind == KIND_LOAD_UNSIGNED then LoadUnsigned
    else Semaphore

-- the form of a word of the profile
unfoldable pub form_of : Fields → Form
form_of f =
    if is_alu f then Alu
    else if is_small f then Small
    else if is_branch f then Branch
    else immediate_form f.kind

-- the form of a word, or its least fault
abbrev pub form_or : Option WordFault → Fields → Result Form WordFault
form_or None f = Ok (form_of f)
form_or (Some fault) f = Err fault

unfoldable pub word_form : ℕ → Result Form WordFault
word_form word = form_or (word_fault word) (fields_of word)
