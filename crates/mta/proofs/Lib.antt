-- Laws about the definitions of specs/.
mod Outcomes
mod Judging
