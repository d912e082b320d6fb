-- What each command tells of the records that it reads. (Own)
use Rattle.replay_loop.specs.declared.told.Told.{Told}
use Rattle.replay_loop.specs.declared.told.Told.TheVariants.{Certificates, Checkpoints, Outlooks, Shortfalls, Texts}
use Rattle.replay_loop.specs.Certificates.{certificates_told}
use Rattle.replay_loop.specs.Lasts.{checkpoint_told, outlook_told, short_told}
use Rattle.replay_loop.specs.Plays.{Telling}
use Rattle.replay_loop.specs.Texts.{texts_told}

-- by its kind
abbrev pub telling_of : Told → Telling (Unit {0})
telling_of Texts = texts_told
telling_of Shortfalls = short_told
telling_of Outlooks = outlook_told
telling_of Checkpoints = checkpoint_told
telling_of Certificates = certificates_told
