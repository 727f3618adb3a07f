use Rattle.host_calls.proofs.images.pages_read_an_image.Goals as goal

pub returns : goal.returns
returns g c = λ tells v. g.met.P.PageDisk.reads_image v tells
