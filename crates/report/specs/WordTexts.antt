-- The bytes that a word of a line is printed as. (Own)
use Rattle.std.specs.Prelude.{decimal}
use Rattle.gov_ids.specs.Spelling.{account_text, action_id_text, address_text, asset_name_text, credential_text, drep_text, hash_text, pool_text, ref_text, voter_text}
use Rattle.text_model.specs.Words as texts
use Rattle.report.specs.declared.parts.Word.{Word}
use Rattle.report.specs.declared.parts.Word.TheVariants.{Text, Number, Sum, Fraction, Version, Hash, Script, Credential, Account, Address, Output, Action, Pool, Drep, Voter, AssetName}

-- its bytes
abbrev pub word_text : Word → texts.Text
word_text (Text w) = w.now
word_text (Number n) = decimal n
word_text (Sum n) = decimal n
word_text (Fraction num den) = texts.fraction_text num den
word_text (Version major minor) = texts.version_text (major, minor)
word_text (Hash h) = hash_text h.now
word_text (Script h) = hash_text h.now
word_text (Credential c) = credential_text c.now
word_text (Account a) = account_text a.now
word_text (Address a) = address_text a.now
word_text (Output r) = ref_text r.now
word_text (Action a) = action_id_text a.now
word_text (Pool p) = pool_text p.now
word_text (Drep d) = drep_text d.now
word_text (Voter v) = voter_text v.now
word_text (AssetName n) = asset_name_text n.now
